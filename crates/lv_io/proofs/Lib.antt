mod Lookup
mod Putting

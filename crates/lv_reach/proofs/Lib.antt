mod Lists
mod Bits
mod Spreading
mod Started
mod Values
mod Sources
mod Registered

mod Rows
mod Lists
mod Chains
mod Ranks
mod Rings
mod Works
mod Steps
mod Turns

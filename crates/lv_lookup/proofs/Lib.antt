mod Bound
mod Kept
mod Named
mod Outward
mod Places

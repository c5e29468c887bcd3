mod Certified
mod Erring
mod Joined
mod Owned
mod Resting
mod Runs
mod Told

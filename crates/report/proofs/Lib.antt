mod Joined
mod Parts

mod Kept
mod Edited

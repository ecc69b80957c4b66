mod Reading
mod Names
mod Within
mod Directories

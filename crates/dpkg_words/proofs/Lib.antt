mod Cutting
mod Turns
mod Lines
mod Three

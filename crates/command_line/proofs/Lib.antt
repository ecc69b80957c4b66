mod Trees
mod Rounds
mod Steps
mod Printed
mod Limited
mod Held
mod Named
mod Changed
mod Helped
mod Inquired
mod Turns
mod Rehearsed
mod Compared
mod Verified
mod Behind
mod Begun
pub mod Told

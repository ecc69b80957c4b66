mod Rows
pub mod DigestTexts
mod ConffileWorlds
mod Settlings
mod SettlingLists
mod ClearWays
mod Stopped

mod Cutting
mod Digits
mod Entries
mod Texts
mod Firsts
mod Giving

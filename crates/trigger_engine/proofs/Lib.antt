mod TriggerTexts
mod Tables
mod Planned
mod Looking

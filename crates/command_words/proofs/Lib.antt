mod Asking
mod Adding
mod Waiting
mod Rehearsing
mod CutAtEquals
mod Behind

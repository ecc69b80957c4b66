mod Readings
mod Architectures

mod Splitting
mod LastColon

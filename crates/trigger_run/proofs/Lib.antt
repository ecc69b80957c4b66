mod Once
mod Installed
mod Lacking
mod Replies
mod Processings
mod Turning
mod Ending

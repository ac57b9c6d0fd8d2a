mod Listening
mod ActsFound
mod Fresh

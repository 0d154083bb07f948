mod Spotted
mod Pointed
mod Broken
mod ReadWords
mod Puts
mod Starts
mod Stood

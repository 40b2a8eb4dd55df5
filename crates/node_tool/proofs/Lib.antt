mod Alone
mod Ending
mod OnDisks

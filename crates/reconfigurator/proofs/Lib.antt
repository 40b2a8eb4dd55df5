mod Staying
mod Taking

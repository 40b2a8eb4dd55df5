mod Laggards

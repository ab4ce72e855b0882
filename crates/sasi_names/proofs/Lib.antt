mod Dashes

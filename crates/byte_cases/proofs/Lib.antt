-- What ladders that keep the rules promise to the steps behind.
mod Aimed

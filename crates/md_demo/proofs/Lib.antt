mod Carts
mod Streams

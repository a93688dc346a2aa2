mod Answering
mod WithHands

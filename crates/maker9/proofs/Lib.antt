mod Answering
mod Telling

mod Answering
mod Loading

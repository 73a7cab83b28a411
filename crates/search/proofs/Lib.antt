mod Queueing
mod OnTheFront
mod Stepping
mod Beginning
mod Turning
mod WalkingBack
mod WrittenRows
mod Answering

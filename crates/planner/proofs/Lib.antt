mod Concluding
mod HeatedQuestion

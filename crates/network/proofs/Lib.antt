mod Carrying
mod Places
mod Queues
mod Search

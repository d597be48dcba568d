mod Again
mod Each

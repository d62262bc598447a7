mod OneCornerSet
mod Below
mod StateChecks

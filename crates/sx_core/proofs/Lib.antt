-- One file: what a shortcut of one word says of its plan.
mod OneWord

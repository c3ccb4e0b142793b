-- Why the closing's steps leave what the rules name.
mod Parts

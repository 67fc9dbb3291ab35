-- Tests over a range of numbers; tables by their rows' ends, and rounds of pruning; floors; answers to plans; the worked days.
mod Ranges
mod Rounds
mod Floors
mod Plans
mod Worked

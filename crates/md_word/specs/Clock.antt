-- The clocks of the machine, in cycles of the master clock of 53,693,175 Hz.
-- Genesis Technical Overview; the batch, the last cycle and the cycle limit are this project's profile.
use Rattle.std.specs.Prelude.{ℕ, ◌+◌, ◌-◌, ◌/◌, ◌%◌, ◌^◌, min}

-- a clock of the 68000
abbrev pub main_clock : ℕ
main_clock = 7

-- a clock of the Z80
abbrev pub sub_clock : ℕ
sub_clock = 15

-- a line
abbrev pub line : ℕ
line = 3420

-- a frame of 262 lines
abbrev pub frame : ℕ
frame = 896040

-- a sample of the FM chip
abbrev pub fm_sample : ℕ
fm_sample = 1008

-- a tick of the sound generator
abbrev pub psg_tick : ℕ
psg_tick = 240

-- a batch of 16 samples
abbrev pub batch : ℕ
batch = 16128

-- the last cycle to which a run may go
abbrev pub last_cycle : ℕ
last_cycle = 549755813888

-- no cycle that is counted is above this: sums with it stay far below 2 ^ 64
abbrev pub cycle_limit : ℕ
cycle_limit = 2 ^ 50

-- the least number of cycles between two events of the 68000: an access takes four of its clocks
abbrev pub main_gap : ℕ
main_gap = 28

-- the least number of cycles between two events of the Z80: an access takes three of its clocks
abbrev pub sub_gap : ℕ
sub_gap = 45

-- how many gaps lead from a cycle to the first one that is not before another
abbrev pub gaps_to : ℕ → ℕ → ℕ → ℕ
gaps_to gap start end = (end - start) / gap + min 1 ((end - start) % gap)

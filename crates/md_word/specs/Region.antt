-- What a frame is in each region: NTSC, or PAL where `pal` is true. Genesis Technical Overview, the
-- television systems; the line at which the pads take their words is this project's profile.
use Rattle.std.specs.Prelude.{ℕ, ◌+◌, ◌/◌, Bool, if◌then◌else◌}

-- the lines of a frame
abbrev pub lines : Bool → ℕ
lines pal = if pal then 313 else 262

-- its cycles
abbrev pub frame_cycles : Bool → ℕ
frame_cycles pal = if pal then 1070460 else 896040

-- the rows of a picture, which is the number of the line at whose start the pads take their words and
-- the frame is finished
abbrev pub rows : Bool → ℕ
rows pal = if pal then 240 else 224

-- the lines of the display, which on PAL may be tall
abbrev pub height : Bool → ℕ
height tall = if tall then 240 else 224

-- the cycle of a frame at which that line starts
abbrev pub finished_at : Bool → ℕ
finished_at pal = if pal then 820800 else 766080

-- the dots of a scanline of a picture
abbrev pub picture_width : ℕ
picture_width = 320

-- the bytes of a scanline of a picture: red, green and blue of each dot
abbrev pub scanline_length : ℕ
scanline_length = 960

-- the bytes of a picture of 320 dots a scanline, three for each dot
abbrev pub picture_length : Bool → ℕ
picture_length pal = if pal then 230400 else 215040

-- the master clock in hertz
abbrev pub master_clock : Bool → ℕ
master_clock pal = if pal then 53203424 else 53693175

-- the samples of a second, rounded down
abbrev pub sound_rate : Bool → ℕ
sound_rate pal = if pal then 52781 else 53267

-- how many lines at whose start a frame is finished start below so many lines
abbrev pub finishes : Bool → ℕ → ℕ
finishes pal n = (n + (if pal then 72 else 37)) / lines pal

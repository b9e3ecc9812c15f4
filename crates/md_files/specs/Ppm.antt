-- The bytes of a file of pictures. Netpbm's PPM in its raw form, ppm(5).
use Rattle.std.specs.Prelude.{ℕ, List, Bool, codes, if◌then◌else◌}

-- the header of a picture of a region: the magic of the raw form, its width and height, and the greatest value of a
-- colour, each with a line feed
unfoldable pub ppm_head : Bool → List ℕ
ppm_head pal = if pal then codes "P6\n320 240\n255\n" else codes "P6\n320 224\n255\n"

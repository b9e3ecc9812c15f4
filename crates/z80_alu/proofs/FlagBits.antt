-- The flags of a byte of flags are those flags.
use Rattle.std.proofs.Common.{◌≡◌, Bool, true, false, refl}
use Rattle.z80_alu.specs.declared.flags80.Flags80.{Flags80}
use Rattle.z80_alu.specs.Flags.{byte_of, flags_of}

each : (s z h pv n c : Bool) → (let flags : Flags80 = record { s = s; z = z; h = h; pv = pv; n = n; c = c } in flags_of (byte_of flags) ≡ flags)
unfolding byte_of flags_of
each true true true true true true = refl
each true true true true true false = refl
each true true true true false true = refl
each true true true true false false = refl
each true true true false true true = refl
each true true true false true false = refl
each true true true false false true = refl
each true true true false false false = refl
each true true false true true true = refl
each true true false true true false = refl
each true true false true false true = refl
each true true false true false false = refl
each true true false false true true = refl
each true true false false true false = refl
each true true false false false true = refl
each true true false false false false = refl
each true false true true true true = refl
each true false true true true false = refl
each true false true true false true = refl
each true false true true false false = refl
each true false true false true true = refl
each true false true false true false = refl
each true false true false false true = refl
each true false true false false false = refl
each true false false true true true = refl
each true false false true true false = refl
each true false false true false true = refl
each true false false true false false = refl
each true false false false true true = refl
each true false false false true false = refl
each true false false false false true = refl
each true false false false false false = refl
each false true true true true true = refl
each false true true true true false = refl
each false true true true false true = refl
each false true true true false false = refl
each false true true false true true = refl
each false true true false true false = refl
each false true true false false true = refl
each false true true false false false = refl
each false true false true true true = refl
each false true false true true false = refl
each false true false true false true = refl
each false true false true false false = refl
each false true false false true true = refl
each false true false false true false = refl
each false true false false false true = refl
each false true false false false false = refl
each false false true true true true = refl
each false false true true true false = refl
each false false true true false true = refl
each false false true true false false = refl
each false false true false true true = refl
each false false true false true false = refl
each false false true false false true = refl
each false false true false false false = refl
each false false false true true true = refl
each false false false true true false = refl
each false false false true false true = refl
each false false false true false false = refl
each false false false false true true = refl
each false false false false true false = refl
each false false false false false true = refl
each false false false false false false = refl

pub flags_of-byte : (flags : Flags80) → flags_of (byte_of flags) ≡ flags
flags_of-byte flags = each flags.s flags.z flags.h flags.pv flags.n flags.c

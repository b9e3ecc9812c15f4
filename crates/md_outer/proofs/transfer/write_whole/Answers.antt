use Rattle.std.proofs.Common.{◌≡◌, ℕ, ◌-◌, List, ◌++◌, length, take, drop, append_assoc, take-append-drop}
use Rattle.std.proofs.lemmas.List.{take_rest}
use Rattle.std.proofs.KnownBytes.{Appends-trans}
use Rattle.md_outer.proofs.transfer.write_whole.Goals as goal

-- the front of the rest goes over to what is done
front_moved : (all done rest : List ℕ) (n : ℕ) → all ≡ done ++ rest → all ≡ (done ++ take n rest) ++ take (length rest - n) (drop n rest)
front_moved all done rest n e = rw (append_assoc done (take n rest) (take (length rest - n) (drop n rest)), take_rest rest n, take-append-drop n rest) e

-- a write moves what it took from the rest to what is done
pub writing-preserved : goal.writing-preserved
writing-preserved g c =
    let (done, split, appended) = c.writing.invariant in
    let rest = c.writing.rest.now in
    let n = c.in-Ok.count in
    (done ++ take n rest, front_moved _ done rest n split, Appends-trans _ _ _ _ _ appended c.in-Ok.ensures.bytes)

use Rattle.scheduler_tests.proofs.locks.moves_to.Given as goal

abbrev pub ghosts-moves_alone-N-RunName : goal.ghosts-moves_alone-N-RunName
ghosts-moves_alone-N-RunName g a = record { base = g.C.ChipSet.code_of a.core; end = a.t; room = a.core.room }

abbrev pub ghosts-moves_alone-L0-Ledger : goal.ghosts-moves_alone-L0-Ledger
ghosts-moves_alone-L0-Ledger g a = record { name = a.blanks.l0.name; parts = a.blanks.l0.parts }

abbrev pub ghosts-moves_alone-L1-Ledger : goal.ghosts-moves_alone-L1-Ledger
ghosts-moves_alone-L1-Ledger g a = record { name = a.blanks.l1.name; parts = a.blanks.l1.parts }

abbrev pub ghosts-moves_alone-L2-Ledger : goal.ghosts-moves_alone-L2-Ledger
ghosts-moves_alone-L2-Ledger g a = record { name = a.blanks.l2.name; parts = a.blanks.l2.parts }

abbrev pub ghosts-moves_alone-L3-Ledger : goal.ghosts-moves_alone-L3-Ledger
ghosts-moves_alone-L3-Ledger g a = record { name = a.blanks.l3.name; parts = a.blanks.l3.parts }

abbrev pub ghosts-moves_alone-L4-Ledger : goal.ghosts-moves_alone-L4-Ledger
ghosts-moves_alone-L4-Ledger g a = record { name = a.blanks.l4.name; parts = a.blanks.l4.parts }

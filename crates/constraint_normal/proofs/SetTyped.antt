-- What a program's set is by its type: each list has an entry for each place, and what it holds is of its type. Assumes nothing.
use Prim.Native.Nat.{ℕ, zero, suc}
use mathlib.Core.List.{List, [], ◌∷◌}
use mathlib.Core.Path.{◌≡◌}
use borrow.Author.Rules.{rules}
use denote.Array.{each}
use denote.Shadow.{shadow}
use denote.Struct.Declared.{row}
use lib.Ieee.{fits}
use lib.ListN.{length, get_or}
use mir.Val.{Val}
use Rattle.constraint_spec.specs.Sets.{blank, non_nulls, handles}
use Rattle.constraint_spec.specs.declared.Entry.{Entry}
use Rattle.constraint_spec.specs.declared.ConstraintSet.{ConstraintSet}
use Rattle.constraint_spec.specs.contracts.Entry as E
use Rattle.constraint_spec.specs.contracts.ConstraintSet as C
use Rattle.constraint_set.proofs.SetLists.{classes-whole, literals-long, ranges_long_lem}
use Rattle.constraint_normal.specs.Held.{FitsEntry, Held}

entry-fits : (e : Entry) (vs : List Val) → shadow ((E.the_row).own_val e vs) → FitsEntry e
entry-fits e vs p = (search rules, search rules)

each_fits : (xs : List Entry) (us : List Val) (i : ℕ)
    → shadow (each (E.the_row).Denot (E.the_row).own_val xs us) → FitsEntry (get_or xs i blank)
unfolding fits
each_fits [] us i p = (tt, tt)
each_fits (x ∷ xs) [] i p = absurd p
each_fits (x ∷ xs) (u ∷ us) zero p = entry-fits x (u ∷ []) p.0
each_fits (x ∷ xs) (u ∷ us) (suc i) p = each_fits xs us i p.1

nulls-long : (s : ConstraintSet) (vs : List Val) → shadow ((row C.the_type).own_val s vs) → length (non_nulls s) ≡ 128
nulls-long s vs p = search rules

handles-long : (s : ConstraintSet) (vs : List Val) → shadow ((row C.the_type).own_val s vs) → length (handles s) ≡ 64
handles-long s vs p = search rules

pub set-held : (s : ConstraintSet) (vs : List Val) → shadow ((row C.the_type).own_val s vs) → Held s
set-held s vs p = record {
  many = classes-whole s vs p;
  nulls_long = nulls-long s vs p;
  literals_long = literals-long s vs p;
  ranges_long = ranges_long_lem s vs p;
  handles_long = handles-long s vs p;
  fit = λ i. each_fits s.ranges p.1.1.1.1.1.0.0 i p.1.1.1.1.1.0.1.1;
}

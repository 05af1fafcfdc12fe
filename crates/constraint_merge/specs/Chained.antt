-- How the code goes through a class: from member to member. Assumes nothing.
use Rattle.std.specs.Prelude.{ℕ, zero, suc, cond, ltb, eqb, get_or}
use Rattle.value_classes.specs.declared.Members.{Members}
use Rattle.constraint_spec.specs.Sets.{union_values}
use Rattle.constraint_spec.specs.declared.ConstraintSet.{ConstraintSet}

-- the first member of the class of r, or, where that is r, the next
abbrev pub second_of : Members → ℕ → ℕ
second_of ms r = cond (eqb (get_or ms.first r 0) r) (get_or ms.next r 0) (get_or ms.first r 0)

-- from m on at most n members, each united with r
unfoldable pub chained : Members → ℕ → ℕ → ℕ → ConstraintSet → ConstraintSet
chained ms r zero m t = t
chained ms r (suc n) m t = cond (ltb m 128) (chained ms r n (get_or ms.next m 0) (union_values t r m)) t

-- one class as the code goes through it
abbrev pub join_chain : Members → ℕ → ConstraintSet → ConstraintSet
join_chain ms r t = chained ms r 128 (second_of ms r) t

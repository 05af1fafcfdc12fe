-- Replies, from what reading, deriving and applying answer. Assumes nothing.
use Prim.Native.Nat.{ℕ, suc, ◌+◌, ◌<◌, ◌≤◌}
use native.Mathlib.Numerals.{add-one}
use mathlib.Core.Path.{◌≡◌, refl, sym, ap, ◌∙◌}
use mathlib.Core.Bool.{false}
use lib.Dec.{eqb}
use Rattle.apply_spec.specs.Facts as Applying
use mathlib.Core.List.{List, [], ◌++◌, append-nil}
use lib.ListN.{get_or, set, replicate, length, drop, drop_of_length-le}
use lib.Seq.{drop-cons}
use Rattle.std.proofs.Common.{Result, Ok, Err}
use Rattle.plan.specs.declared.Plan.{Plan}
use Rattle.plan.specs.Plans.{empty_plan}
use Rattle.plan_file.specs.Answers as Files
use Rattle.plan_file.specs.Answer.{Answer, answer}
use Rattle.plan_file.specs.declared.ReadError.{ReadError}
use Rattle.plan_file.specs.declared.ReadError.TheVariants as R
use Rattle.plan_file_write.specs.Written.{written_of, columns_bytes}
use Rattle.writing.specs.Text.{lines}
use Rattle.scalar.specs.declared.ScalarValue.{ScalarValue}
use Rattle.rows_spec.specs.Evaluate as Evaluating
use Rattle.rows_spec.specs.declared.EvaluationError.{EvaluationError}
use Rattle.simplify_spec.specs.OneOperator as Simplifying
use Rattle.simplify_spec.specs.declared.Rewrite.{Rewrite}
use Rattle.simplify_spec.specs.declared.Rewrite.TheVariants as W
use Rattle.simplify_spec.specs.declared.SimplifyError.{SimplifyError}
use Rattle.derive_spec.specs.Deriving.{derive_of}
use Rattle.derive_spec.specs.Operators as Deriving
use Rattle.plan_identities.specs.Identities.{identities_of}
use Rattle.derive_spec.specs.declared.DeriveError.{DeriveError}
use Rattle.derive_spec.specs.declared.DeriveError.TheVariants as D
use Rattle.refusals.specs.Numbers.{number_of, last_of}
use Rattle.file_facts.specs.Known.{nothing_known, plan_known, answer_known, handed_back}
use Rattle.file_facts.specs.declared.Known.{Known}
use Rattle.file_facts.specs.declared.Refusal.{Refusal}
use Rattle.apply_spec.specs.Entries.{apply_predicate}
use Rattle.apply_spec.specs.declared.LogicalFacts.{LogicalFacts}
use Rattle.apply_spec.specs.declared.FactsError.{FactsError}
use Rattle.apply_spec.specs.declared.FactsError.TheVariants as F
use Rattle.apply_spec.specs.Told.{FactsAnswer, told}
use Rattle.writing.proofs.Writings.{written_then}
use Rattle.boundary.specs.Replies.{head_of, read_reply, on_plan, known_reply, derived_reply, derive_reply, facts_reply, turned, turn_by, in_turn}
use Rattle.boundary.specs.Replies.{turn_reply, applied_reply, apply_reply, cells_to}

-- ---- reading first
pub on_read : (f : Plan → List ℕ) (p : Plan) → on_plan f (answer (Ok p)) ≡ f p
unfolding on_plan
on_read f p = refl

pub on-refused : (f : Plan → List ℕ) (e : ReadError) → on_plan f (answer (Err e)) ≡ head_of (Files.refusal_of (Err e)) (Files.place_of (Err e))
unfolding on_plan
on-refused f (R.Short at) = refl
on-refused f (R.Unknown at) = refl
on-refused f (R.Room at) = refl
on-refused f (R.Handle at) = refl
on-refused f (R.ScannedTwice at) = refl

pub read-whole : (p : Plan) → read_reply (answer (Ok p)) ≡ head_of 0 0 ++ written_of p
unfolding read_reply
read-whole p = refl

-- an empty plan has no bytes
written-none : written_of empty_plan ≡ []
unfolding written_of columns_bytes lines empty_plan
written-none = refl

pub read-refused : (e : ReadError) → read_reply (answer (Err e)) ≡ head_of (Files.refusal_of (Err e)) (Files.place_of (Err e))
unfolding read_reply
read-refused e = rw (written-none, append-nil) refl

-- ---- what is known of an operator
derived_same : (p : Plan) (h : ℕ) (f : LogicalFacts) (o : Result (Unit {0}) DeriveError)
    → known_reply (handed_back (record {
      number = Deriving.refusal_of o;
      place = Deriving.refuser_of o;
      operator = h;
      identities = identities_of p;
      facts = f;
    }))
    ≡ derived_reply p h (record { facts = f; outcome = o })
unfolding derived_reply handed_back
derived_same p h f (Ok tt) = refl
derived_same p h f (Err (D.UnsupportedKey o)) = refl
derived_same p h f (Err (D.Residuals o)) = refl
derived_same p h f (Err (D.NoSuch o)) = refl

plan_same : (h : ℕ) (p : Plan) → known_reply (handed_back (plan_known h p)) ≡ derive_reply h p
unfolding plan_known derive_reply
plan_same h p = derived_same p h (derive_of p h).facts (derive_of p h).outcome

answer_same : (f : Plan → List ℕ) (h : ℕ) (p : Plan) (r : Result (Unit {0}) ReadError) → known_reply (handed_back (plan_known h p)) ≡ f p
    → known_reply (handed_back (answer_known h (record { plan = p; reading = r }))) ≡ on_plan f (record { plan = p; reading = r })
unfolding on_plan answer_known nothing_known handed_back
answer_same f h p (Ok tt) e = e
answer_same f h p (Err (R.Short at)) e = refl
answer_same f h p (Err (R.Unknown at)) e = refl
answer_same f h p (Err (R.Room at)) e = refl
answer_same f h p (Err (R.Handle at)) e = refl
answer_same f h p (Err (R.ScannedTwice at)) e = refl

pub derive_said : (h : ℕ) (a : Answer) → known_reply (handed_back (answer_known h a)) ≡ on_plan (derive_reply h) a
derive_said h a = answer_same (derive_reply h) h a.plan a.reading (plan_same h a.plan)

pub facts-said : (a : Answer) → known_reply (handed_back (answer_known (last_of a.plan) a)) ≡ on_plan facts_reply a
unfolding facts_reply
facts-said a = answer_same facts_reply (last_of a.plan) a.plan a.reading (plan_same (last_of a.plan) a.plan)

-- ---- from what is known of the operator h on
module _ (p : Plan) (h : ℕ) (es : List ℕ) where
  abbrev from_known : Result Known Refusal → List ℕ
  from_known (Ok k) = turn_reply k.identities h (in_turn p k.facts es 0)
  from_known (Err r) = head_of r.number r.place

  apply_same : (f : LogicalFacts) (o : Result (Unit {0}) DeriveError)
      → applied_reply p h es (record { facts = f; outcome = o })
      ≡ from_known (handed_back (record {
        number = Deriving.refusal_of o;
        place = Deriving.refuser_of o;
        operator = h;
        identities = identities_of p;
        facts = f;
      }))
  unfolding applied_reply handed_back
  apply_same f (Ok tt) = refl
  apply_same f (Err (D.UnsupportedKey o)) = refl
  apply_same f (Err (D.Residuals o)) = refl
  apply_same f (Err (D.NoSuch o)) = refl

  apply_said : apply_reply h es p ≡ from_known (handed_back (plan_known h p))
  unfolding plan_known apply_reply
  apply_said = apply_same (derive_of p h).facts (derive_of p h).outcome

  pub apply-known : (k : Known) → Ok k ≡ handed_back (plan_known h p) → apply_reply h es p ≡ turn_reply k.identities h (in_turn p k.facts es 0)
  apply-known k e = apply_said ∙ ap from_known (sym e)

  pub apply-refused : (r : Refusal) → Err r ≡ handed_back (plan_known h p) → apply_reply h es p ≡ head_of r.number r.place
  apply-refused r e = apply_said ∙ ap from_known (sym e)

-- ---- the numbers of answers
pub rewrite_number : (r : Result Rewrite SimplifyError)
    → number_of (λ (e : SimplifyError). Simplifying.refusal_of (Err e)) r ≡ Simplifying.refusal_of r
rewrite_number (Ok W.Keep) = refl
rewrite_number (Ok (W.Replace o)) = refl
rewrite_number (Err e) = refl

pub evaluation_number : (r : Result ScalarValue EvaluationError)
    → number_of (λ (e : EvaluationError). Evaluating.refusal_of (Err e)) r ≡ Evaluating.refusal_of r
evaluation_number (Ok v) = refl
evaluation_number (Err e) = refl

-- ---- predicates in turn: those from the k-th on
module _ (p : Plan) (l : List ℕ) where
  pub turn-done : (f : LogicalFacts) (k : ℕ) → length l ≤ k → in_turn p f (drop k l) k ≡ turned f (Ok tt)
  unfolding in_turn
  turn-done f k h = rw (drop_of_length-le l {i = k} h) refl

  pub turn-step : (f : LogicalFacts) (k : ℕ) → k < length l
      → in_turn p f (drop k l) k ≡ turn_by (apply_predicate p f (record { 0 = get_or l k 0 })) k (λ g. in_turn p g (drop (suc k) l) (suc k))
  unfolding in_turn
  turn-step f k h = ap (λ (m : List ℕ). in_turn p f m k) (drop-cons l k 0 h)

  told-turn : (f : LogicalFacts) (k : ℕ) (a : FactsAnswer) → k < length l → a ≡ apply_predicate p f (record { 0 = get_or l k 0 })
      → in_turn p f (drop k l) k ≡ turn_by a k (λ g. in_turn p g (drop (suc k) l) (suc k))
  told-turn f k a h e = turn-step f k h ∙ ap (λ (b : FactsAnswer). turn_by b k (λ g. in_turn p g (drop (suc k) l) (suc k))) (sym e)

  pub turn-refused : (f g : LogicalFacts) (e : FactsError) (k : ℕ) → k < length l
      → told g (Err e) ≡ apply_predicate p f (record { 0 = get_or l k 0 }) → in_turn p f (drop k l) k ≡ turned g (Err (record { place = k; error = e }))
  turn-refused f g F.Residuals k h q = told-turn f k _ h q
  turn-refused f g F.NoSuch k h q = told-turn f k _ h q

  -- a refusal has a number
  pub turn-refusal : (e : FactsError) → eqb (Applying.refusal_of (Err e)) 0 ≡ false
  turn-refusal F.Residuals = refl
  turn-refusal F.NoSuch = refl

  pub turn-next : (f g : LogicalFacts) (k : ℕ) → k < length l → told g (Ok tt) ≡ apply_predicate p f (record { 0 = get_or l k 0 })
      → in_turn p g (drop (k + 1) l) (k + 1) ≡ in_turn p f (drop k l) k
  turn-next f g k h q = ap (λ (m : ℕ). in_turn p g (drop m l) m) (add-one k) ∙ sym (told-turn f k _ h q)

-- ---- cells
pub cells-none : (case code bits : List ℕ) → cells_to case code bits 0 ≡ replicate 64 (record { case = 0; code = 0; bits = 0 })
unfolding cells_to
cells-none case code bits = refl

pub cells-next : (case code bits : List ℕ) (n : ℕ) → cells_to case code bits (n + 1)
    ≡ set (cells_to case code bits n) n (record { case = get_or case n 0; code = get_or code n 0; bits = get_or bits n 0 })
unfolding cells_to
cells-next case code bits n = rw add-one refl

pub ruleset apply_steps = (apply-known, apply-refused)

pub ruleset simplify_steps = (written_then, rewrite_number)

pub ruleset evaluate_steps = (written_then, evaluation_number)

pub ruleset read_steps = (written_then, read-whole, read-refused)

pub ruleset plan_steps = (written_then, on_read, on-refused)

pub ruleset cells_loop = (cells-none, cells-next)

pub ruleset turn_loop = (turn-done, turn-step, turn-refusal, turn-next)

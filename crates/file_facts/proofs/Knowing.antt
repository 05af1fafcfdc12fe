-- What is known where reading or deriving refuses. Assumes nothing.
use Prim.Native.Nat.{ℕ}
use mathlib.Core.Path.{◌≡◌, refl, sym, ap, ◌∙◌}
use Rattle.std.proofs.Common.{Err}
use Rattle.plan.specs.declared.Plan.{Plan}
use Rattle.plan_file.specs.Answer.{Answer, answer}
use Rattle.plan_file.specs.declared.ReadError.{ReadError}
use Rattle.plan_file.specs.declared.ReadError.TheVariants as R
use Rattle.plan_identities.specs.Identities.{identities_of}
use Rattle.derive_spec.specs.Answers.{DeriveAnswer, derived}
use Rattle.derive_spec.specs.Operators as Deriving
use Rattle.derive_spec.specs.Deriving.{derive_of}
use Rattle.derive_spec.specs.declared.DeriveError.{DeriveError}
use Rattle.derive_spec.specs.declared.DeriveError.TheVariants as D
use Rattle.file_facts.specs.Known.{KnownAnswer, nothing_known, plan_known, answer_known, handed_back, read_refusal, derive_refusal, known_of}

-- ---- an operator of a plan, where deriving refuses
module _ (h : ℕ) (p : Plan) where
  abbrev from_derived : DeriveAnswer → KnownAnswer
  from_derived d =
      record {
        number = Deriving.refusal_of d.outcome;
        place = Deriving.refuser_of d.outcome;
        operator = h;
        identities = identities_of p;
        facts = d.facts;
      }

  pub plan_refused : (e : DeriveError) → derived (Err e) ≡ derive_of p h → Err (derive_refusal e) ≡ handed_back (plan_known h p)
  unfolding plan_known handed_back
  plan_refused e d = by-number e ∙ ap (λ (a : DeriveAnswer). handed_back (from_derived a)) d
    where
      by-number : (r : DeriveError) → Err (derive_refusal r) ≡ handed_back (from_derived (derived (Err r)))
      by-number (D.UnsupportedKey o) = refl
      by-number (D.Residuals o) = refl
      by-number (D.NoSuch o) = refl

-- ---- an operator of a file, where reading refuses
module _ (h : ℕ) (a : Answer) where
  pub file-refused : (e : ReadError) → answer (Err e) ≡ a → Err (read_refusal e) ≡ handed_back (answer_known h a)
  unfolding answer_known nothing_known handed_back
  file-refused e q = by-number e ∙ ap (λ (b : Answer). handed_back (answer_known h b)) q
    where
      by-number : (r : ReadError) → Err (read_refusal r) ≡ handed_back (answer_known h (answer (Err r)))
      by-number (R.Short at) = refl
      by-number (R.Unknown at) = refl
      by-number (R.Room at) = refl
      by-number (R.Handle at) = refl
      by-number (R.ScannedTwice at) = refl

  pub file-refused_whole : (e : ReadError) → answer (Err e) ≡ a → known_of h a (Err (read_refusal e)) ≡ answer_known h a
  unfolding answer_known nothing_known
  file-refused_whole e q = ap (λ (b : Answer). known_of h b (Err (read_refusal e))) (sym q) ∙ by-number e ∙ ap (answer_known h) q
    where
      by-number : (r : ReadError) → known_of h (answer (Err r)) (Err (read_refusal r)) ≡ answer_known h (answer (Err r))
      by-number (R.Short at) = refl
      by-number (R.Unknown at) = refl
      by-number (R.Room at) = refl
      by-number (R.Handle at) = refl
      by-number (R.ScannedTwice at) = refl

pub ruleset file_ways = (file-refused, file-refused_whole)

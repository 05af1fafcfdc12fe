-- What is written, from what is known. Assumes nothing.
use Prim.Native.Nat.{ℕ}
use mathlib.Core.Path.{◌≡◌, refl, sym, ap, ◌∙◌}
use mathlib.Core.List.{List}
use Rattle.std.proofs.Common.{Result, Ok, Err}
use Rattle.plan.specs.declared.Plan.{Plan}
use Rattle.plan_file.specs.Answer.{Answer}
use Rattle.plan_file.specs.declared.ReadError.{ReadError}
use Rattle.plan_file.specs.declared.ReadError.TheVariants as R
use Rattle.apply_spec.specs.declared.LogicalFacts.{LogicalFacts}
use Rattle.derive_spec.specs.Deriving.{derive_of}
use Rattle.derive_spec.specs.Operators as Deriving
use Rattle.plan_identities.specs.Identities.{identities_of}
use Rattle.derive_spec.specs.declared.DeriveError.{DeriveError}
use Rattle.derive_spec.specs.declared.DeriveError.TheVariants as D
use Rattle.listing.specs.Listing.{listing_text, refused_line}
use Rattle.refusals.specs.Numbers.{last_of}
use Rattle.file_facts.specs.Known.{nothing_known, plan_known, answer_known, handed_back}
use Rattle.file_facts.specs.declared.Known.{Known}
use Rattle.file_facts.specs.declared.Refusal.{Refusal}
use Rattle.facts_text.specs.FactsText.{derived_text, plan_text, facts_text}

abbrev known_text : Result Known Refusal → List ℕ
known_text (Ok k) = listing_text k.operator k.identities k.facts
known_text (Err r) = refused_line r.number r.place

derived_same : (p : Plan) (h : ℕ) (f : LogicalFacts) (o : Result (Unit {0}) DeriveError)
    → known_text (handed_back (record {
      number = Deriving.refusal_of o;
      place = Deriving.refuser_of o;
      operator = h;
      identities = identities_of p;
      facts = f;
    }))
    ≡ derived_text p h (record { facts = f; outcome = o })
unfolding derived_text handed_back
derived_same p h f (Ok tt) = refl
derived_same p h f (Err (D.UnsupportedKey o)) = refl
derived_same p h f (Err (D.Residuals o)) = refl
derived_same p h f (Err (D.NoSuch o)) = refl

plan_same : (p : Plan) → known_text (handed_back (plan_known (last_of p) p)) ≡ plan_text p
unfolding plan_known plan_text
plan_same p = derived_same p (last_of p) (derive_of p (last_of p)).facts (derive_of p (last_of p)).outcome

answer_same : (p : Plan) (r : Result (Unit {0}) ReadError)
    → known_text (handed_back (answer_known (last_of p) (record { plan = p; reading = r }))) ≡ facts_text (record { plan = p; reading = r })
unfolding facts_text answer_known nothing_known handed_back
answer_same p (Ok tt) = plan_same p
answer_same p (Err (R.Short at)) = refl
answer_same p (Err (R.Unknown at)) = refl
answer_same p (Err (R.Room at)) = refl
answer_same p (Err (R.Handle at)) = refl
answer_same p (Err (R.ScannedTwice at)) = refl

told : (a : Answer) → known_text (handed_back (answer_known (last_of a.plan) a)) ≡ facts_text a
told a = answer_same a.plan a.reading

pub text_listed : (a : Answer) (k : Known) → Ok k ≡ handed_back (answer_known (last_of a.plan) a)
    → facts_text a ≡ listing_text k.operator k.identities k.facts
text_listed a k e = sym (told a) ∙ ap known_text (sym e)

pub text_refused : (a : Answer) (r : Refusal) → Err r ≡ handed_back (answer_known (last_of a.plan) a) → facts_text a ≡ refused_line r.number r.place
text_refused a r e = sym (told a) ∙ ap known_text (sym e)

pub ruleset texts = (text_listed, text_refused)

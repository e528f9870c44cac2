-- The order of a lookup's answers: its fields, then the tables, then what is found; that its code is one of document 01's, and that it reads no more
-- rows than the number of used rows has binary digits, whatever was lent.
use mathlib.Core.Path.{◌≡◌, refl, ap, ◌∙◌}
use mathlib.Core.Bool.{Bool}
use mathlib.Core.List.{List, [], ◌∷◌}
use Prim.Native.Nat.{ℕ, ◌≤◌}
use native.Mathlib.Omega.{arith}
use Rattle.std.specs.Prelude.{Result, IsErrAnd}
use Rattle.std.proofs.lemmas.Result.{err_from_is_err_and}
use Rattle.rows.specs.Rows.{key_of}
use Rattle.rows.specs.Lookup.{lookup, digits}
use Rattle.rows.specs.declared.Lookup.{Lookup}
use Rattle.rows.proofs.RowsRead.{lookup-shown}
use Rattle.rules.specs.Limits.{is_pool, is_number}
use Rattle.rules.specs.Table.{all}
use Rattle.rules.specs.Answers.{code_of, Malformed, BadTables}
use Rattle.rules.specs.declared.refusal.Refusal.{Refusal}
use Rattle.rules.specs.declared.Account.{Account}
use Rattle.rules.specs.declared.Offer.{Offer}
use Rattle.rules.proofs.Tests.{cases}
use Rattle.books.specs.Layout.{stake_width, offer_width}
use Rattle.books.specs.Tables.{used_of}
use Rattle.books.specs.Words.{Tables, good_tables}
use Rattle.queries.specs.inner.Gate.{gate_code}
use Rattle.queries.specs.Lookups.{LookupAnswer, refused_lookup, told_lookup, lookup_answer, lookup_on, stake_lookup, offer_lookup}
use Rattle.queries.proofs.QueryOrder.{gated, let-through, turned-away}

module _ (t : Tables) (pool number : ℕ) (found : Lookup) where
  abbrev fields : List Bool
  fields = is_pool pool ∷ is_number number ∷ []

  -- ---- behind the gate

  lookup-gated : gated refused_lookup (told_lookup found) t (all fields) ≡ lookup_on t pool number found
  lookup-gated = refl

  module _ (met : Bool) (is : met ≡ all fields) where
    pub gate-finds : 0 ≡ gate_code t met → told_lookup found ≡ lookup_on t pool number found
    gate-finds e = let-through refused_lookup (told_lookup found) t met e ∙ ap (gated refused_lookup (told_lookup found) t) is ∙ lookup-gated

    pub gate-refuses : (r : Refusal) → code_of r ≡ gate_code t met → (out : Result Lookup Refusal) → IsErrAnd out (λ x. x ≡ r) → lookup_answer out ≡ lookup_on t pool number found
    gate-refuses r e out x =
        let p = err_from_is_err_and out x in
        ap lookup_answer p.1 ∙ ap (λ (y : Refusal). refused_lookup (code_of y)) p.2
        ∙ turned-away refused_lookup (told_lookup found) t met r e ∙ ap (gated refused_lookup (told_lookup found) t) is ∙ lookup-gated

  -- ---- its code and its reads

  by-cases : (P : LookupAnswer → Type 0) → P (told_lookup found) → P (refused_lookup BadTables) → P (refused_lookup Malformed) → P (lookup_on t pool number found)
  by-cases P h b m = cases (all fields) _ _ P (λ e. cases (good_tables t) _ _ P (λ f. h) (λ f. b)) (λ e. m)

  lookup-coded : (lookup_on t pool number found).code ≤ 11
  lookup-coded = by-cases (λ a. a.code ≤ 11) (omega arith) (omega arith) (omega arith)

  lookup-reads : (n : ℕ) → found.reads ≤ n → (lookup_on t pool number found).reads ≤ n
  lookup-reads n h = by-cases (λ a. a.reads ≤ n) h (omega arith) (omega arith)

pub stake-coded : (t : Tables) (pool : ℕ) (account : Account) → (stake_lookup t pool account).code ≤ 11
unfolding stake_lookup
stake-coded t pool account = lookup-coded t pool account.0 _

pub offer-coded : (t : Tables) (pool : ℕ) (offer : Offer) → (offer_lookup t pool offer).code ≤ 11
unfolding offer_lookup
offer-coded t pool offer = lookup-coded t pool offer.0 _

pub stake-reads : (t : Tables) (pool : ℕ) (account : Account) → (stake_lookup t pool account).reads ≤ digits (used_of stake_width t.stakes)
unfolding stake_lookup
stake-reads t pool account =
    let n = used_of stake_width t.stakes in
    lookup-reads t pool account.0 (lookup t.stakes stake_width n (key_of pool account.0)) (digits n) (lookup-shown.at_most t.stakes stake_width n (key_of pool account.0))

pub offer-reads : (t : Tables) (pool : ℕ) (offer : Offer) → (offer_lookup t pool offer).reads ≤ digits (used_of offer_width t.offers)
unfolding offer_lookup
offer-reads t pool offer =
    let n = used_of offer_width t.offers in
    lookup-reads t pool offer.0 (lookup t.offers offer_width n (key_of pool offer.0)) (digits n) (lookup-shown.at_most t.offers offer_width n (key_of pool offer.0))

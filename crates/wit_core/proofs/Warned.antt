-- That what is counted over the table is what the rules count, and what is allowed what they allow.
use Rattle.std.proofs.Common.{◌≡◌, ℕ, Bool, true, false, ◌&&◌, ◌||◌, nat_lt, nat_le, List, length}
use Rattle.std.proofs.Common.{map, Option, None, Some, is_some, unwrap_or, refl, ap, ap₂, ◌∙◌}
use Rattle.std.proofs.Common.{sym, subst, arith}
use Rattle.std.specs.Option.{option_map}
use Rattle.std.proofs.lemmas.Bool.{and_parts, leb-true, ltb-true, true≢false}
use Rattle.std.proofs.lemmas.List.{length-map}
use Rattle.wit_model.specs.declared.flags.WarnFlags.{WarnFlags}
use Rattle.wit_model.specs.declared.locks.Instance.{Instance}
use Rattle.wit_model.specs.declared.locks.Lock.{Lock}
use Rattle.wit_model.specs.declared.locks.LockNo.{LockNo}
use Rattle.wit_model.specs.declared.locks.LockType.{LockType}
use Rattle.wit_model.specs.declared.locks.TypeNo.{TypeNo}
use Rattle.wit_model.specs.Rules.Chunks.{Chunks}
use Rattle.wit_model.specs.Rules.Locks.{has_flag}
use Rattle.wit_model.specs.Rules.Numbers.{with_number, is_given, IsGiven}
use Rattle.wit_model.specs.Rules.State.{Story, Known, State, state_of, is_seat}
use Rattle.wit_model.specs.Rules.State as model
use Rattle.wit_model.specs.Rules.Verdict.{Basis, basis_of, type_held, is_giant, is_sleepable}
use Rattle.wit_model.specs.Rules.Warnings.{is_lock_named, is_allowed, warning, warned}
use Rattle.wit_model.proofs.Numbered.{with_number-map, with_number-none}
use Rattle.wit_table.specs.Known.{Names}
use Rattle.wit_matrix.specs.Relation.{Relation}
use Rattle.wit_check.specs.Bases.{basis}
use Rattle.wit_check.specs.Held.{sleep_chain, spin_chain}
use Rattle.wit_core.specs.declared.verifier.Verifier.TheInside.{Inside}
use Rattle.wit_core.specs.Kept.{known_in}
use Rattle.wit_waiting.specs.Seats.{HoldFor}
use Rattle.wit_core.proofs.Judged.{chain-of-list}
use Rattle.wit_core.proofs.Now.{now, view-is}
use Rattle.wit_core.proofs.Seen.{IsSeenAs}

abbrev with_types : Names → Relation → List LockType → List TypeNo → Basis
with_types names relation ts ls =
    record {
      types = ts;
      lock_types = ls;
      orders = relation.orders;
      found = relation.found;
      blessed = names.blessed;
    }

off : (a b c : Bool) → a ≡ (a || (b && false) || (c && false))
off true b c = refl
off false false false = refl
off false false true = refl
off false true false = refl
off false true true = refl

-- a lock that was never made has no type, so that only its name allows it
pub never-allowed : (k : Known) (named : Option LockNo) (flags : WarnFlags) (i : Instance)
    → with_number k.locks i.lock.0 ≡ None
    → is_lock_named named i ≡ is_allowed (basis_of k) named flags i
never-allowed k named flags i none =
    let typeless : type_held (basis_of k) i ≡ record { 0 = 0 } =
    ap (λ (o : Option TypeNo). unwrap_or o (record { 0 = 0 }))
    (with_number-map (λ (l : Lock). l.type_no) k.locks i.lock.0
    ∙ ap (option_map (λ (l : Lock). l.type_no)) none) in
    off (is_lock_named named i) (has_flag flags.0 0x01) (has_flag flags.0 0x02)
    ∙ ap (λ (t : TypeNo). is_lock_named named i
    || (has_flag flags.0 0x01 && is_giant (basis_of k) t)
    || (has_flag flags.0 0x02 && is_sleepable (basis_of k) t)) (sym typeless)

-- a lock that was made has one
pub given-by : (locks : List Lock) (types : List TypeNo) (l : ℕ) (r : Option TypeNo)
    → types ≡ map (λ (x : Lock). x.type_no) locks
    → r ≡ option_map (λ (x : Lock). x.type_no) (with_number locks l) → is_some r ≡ true
    → IsGiven types l
given-by locks types l r are is some =
    subst (λ (ts : List TypeNo). IsGiven ts l) (sym are) (go (is_given locks l) refl)
  where
    go : (b : Bool) → is_given locks l ≡ b → IsGiven (map (λ (y : Lock). y.type_no) locks) l
    go true e =
        let parts = and_parts (nat_lt 0 l) (nat_le l (length locks)) e in (
          ltb-true 0 l parts.0,
          omega (
            arith,
            leb-true l (length locks) parts.1,
            length-map locks (λ (y : Lock). y.type_no),
          ),
        )
    go false e =
        absurd (true≢false (sym some ∙ ap is_some (is
        ∙ ap (option_map (λ (x : Lock). x.type_no)) (with_number-none locks l e))))

-- and one without a type wasn't made
pub none-by : (o : Option Lock) (r : Option TypeNo) → r ≡ option_map (λ (x : Lock). x.type_no) o
    → is_some r ≡ false → o ≡ None
none-by None r is none = refl
none-by (Some x) r is none = absurd (true≢false (sym (ap is_some is) ∙ none))

module _ {v : Inside} {s : Story} (this : IsSeenAs v s) where
  pub allowed-told : (names : Names) (relation : Relation) (types : List TypeNo)
      (named : Option LockNo) (flags : WarnFlags) (i : Instance)
      → names.types ≡ v.known.known.types
      → types ≡ map (λ (l : Lock). l.type_no) v.known.known.locks
      → is_allowed (basis names relation types) named flags i
      ≡ is_allowed (basis_of (state_of s).known) named flags i
  allowed-told names relation types named flags i same are =
      ap₂ (λ ts ls. is_allowed (with_types names relation ts ls) named flags i) same are
      ∙ ap (λ (x : State). is_allowed (basis_of x.known) named flags i) (now this)

  pub none-made : (named : Option LockNo) (flags : WarnFlags) (i : Instance)
      → with_number v.known.known.locks i.lock.0 ≡ None
      → is_lock_named named i ≡ is_allowed (basis_of (state_of s).known) named flags i
  none-made named flags i none =
      never-allowed (state_of s).known named flags i
      (ap (λ (x : State). with_number x.known.locks i.lock.0) (sym (now this)) ∙ none)

module _ {v : Inside} {s : Story} (this : IsSeenAs v s) (t : ℕ) (is : is_seat (state_of s) t ≡ true)
    (c : Chunks) (holds : HoldFor v.seats c) where
  pub warned-told : (names : Names) (relation : Relation) (types : List TypeNo)
      (named : Option LockNo) (flags : WarnFlags)
      → names.types ≡ v.known.known.types
      → types ≡ map (λ (l : Lock). l.type_no) v.known.known.locks
      → length (warning (basis names relation types) v.watch named flags (sleep_chain c t)
      (spin_chain c t)) ≡ length (warned (state_of s) t named flags)
  warned-told names relation types named flags same are =
      ap₂ (λ ts ls. length (warning (with_types names relation ts ls) v.watch named flags
      (sleep_chain c t) (spin_chain c t))) same are
      ∙ ap₂ (λ sl sp. length (warning (basis_of (known_in v)) v.watch named flags sl sp))
      (chain-of-list this t is c holds false) (chain-of-list this t is c holds true)
      ∙ ap (λ (r : model.Seat). length
      (warning (basis_of (known_in v)) v.watch named flags r.sleep r.spin))
      (sym (view-is v.seats t))
      ∙ ap (λ (x : State). length (warned x t named flags)) (now this)

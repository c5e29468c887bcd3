-- What the walks of the raw layer share. Assumes `Logic`.
--     Lk, Cr, Marked         the rows of a link, of the owner of the places, and of its one field
--     mark_made, mark_had    a value that takes no bytes
--     slot_emptied           a value that is forgotten leaves an empty place
--     room_left              so a whole block is room, whatever it held
use mathlib.Core.Path.{◌≡◌, refl, sym, subst}
use Prim.Native.Nat.{ℕ, ◌+◌}
use mathlib.Core.List.{List, [], ◌∷◌, ◌++◌}
use lib.ListN.{length, replicate}
use seplogic.Ra.Ura.{Ura}
use base.Fraction.{full_share}
use mir.Syntax.{ty_array}
use mir.Val.{Val, vstruct, vcons, vnil, of_list}
use base.Logic.{SProp, ent, emp, id⊢, via}
use base.Fml.{fat, froom}
use types.Logic.{Logic, sem}
use types.Kit.{Item, Goal, Seq, ‵, ◌⊛◌, some, given, ◌$◌, ◌∵◌, !, qed, move, keep, drop as skip}
use types.Kit.{use1, pick, learn, split, fsplit, fjoin, fpick, feq_l, done}
use denote.RattleType.{RattleType}
use denote.Shadow.{makes_shadow}
use denote.Struct.Struct.{Struct}
use denote.Struct.Owning.{shape}
use Rattle.std.specs.Prelude.{Some, None}
use Rattle.std.specs.Mem.{type_size}
use Rattle.core.proofs.mem.Param.{El, R, elτ}
use Rattle.std_alloc.proofs.RcSteps.{Good}
use Rattle.std_alloc.proofs.RawLayout.{as_raw}
use Rattle.circular_buffer.specs.Ownership.{slot, slots}
use Rattle.circular_buffer.proofs.Memory.{Place, value_out, to_room}
use Rattle.wit_pool.specs.contracts.cells.Cells as Cells
use Rattle.wit_pool.specs.contracts.cells.Link as Link

module _ (E : El) where
  abbrev pub Cr : RattleType
  Cr = Cells.the_row (R E)

  abbrev pub Lk : RattleType
  Lk = Link.the_row (R E)

  abbrev pub Marked : RattleType
  Marked = Struct (shape (Cells.the_type (R E)))

abbrev pub mark : Val
mark = vstruct (vcons (vstruct vnil) vnil)

pub mark_made : (E : El) {M : Type 1} {𝓤 : Ura M} (𝓛 : Logic 𝓤)
    → ent 𝓤 (emp 𝓤) (sem 𝓛 ((Marked E).own_val (tt, tt) (mark ∷ [])))
mark_made E 𝓛 =
    makes_shadow 𝓛 ((Marked E).own_val (tt, tt) (mark ∷ [])) (λ vss. (tt, ((λ uss. (tt, tt)), tt)))
    ((vstruct vnil ∷ [], tt), (refl, ((tt, (refl, tt)), tt)))

pub at_words : {M : Type 1} (𝓤 : Ura M) (Q : List Val → SProp 𝓤) {us ws : List Val} → us ≡ ws
    → ent 𝓤 (Q ws) (Q us)
at_words 𝓤 Q {us} {ws} e = subst (λ vs. ent 𝓤 (Q ws) (Q vs)) (sym e) (id⊢ 𝓤 (Q ws))

module _ {M : Type 1} {𝓤 : Ura M} {𝓛 : Logic 𝓤} {K : Type 0} {Γ : List (Item 𝓤)}
    {G : Goal 𝓤 𝓛.H} where
  pub mark_had : K → (E : El) (vs : List Val) → (vs ≡ mark ∷ [] → Seq K 𝓛 Γ G)
      → Seq K 𝓛 (‵ ((Marked E).own_val (tt, tt) vs) ∷ Γ) G
  mark_had t E vs k =
      fpick t (λ vss. fsplit t $ feq_l t (λ outer. fsplit t
      $ fpick t (λ uss. fsplit t $ feq_l t (λ inner. skip t $ skip t $
      k (subst (λ (ws : List Val). vs ≡ vstruct (of_list (ws ++ [])) ∷ []) inner outer)))))

module _ (E : El) {M : Type 1} {𝓤 : Ura M} (𝓛 : Logic 𝓤) (b : ℕ) where
  open 𝓛 use {H}

  pub slot_emptied : (o : ℕ) (c : Place E)
      → ent 𝓤 (sem 𝓛 (slot (R E) b o c)) (sem 𝓛 (slot (R E) b o None))
  slot_emptied o None = id⊢ 𝓤 (sem 𝓛 (slot (R E) b o None))
  slot_emptied o (Some x) =
      qed 𝓛 (‵ (slot (R E) b o (Some x)) ∷ []) ∵
      use1 𝓛 (some (λ (v : Val). given (Good (elτ E) v)
      (‵ (fat full_share (elτ E) b o v) ⊛ ‵ (E.row.own_val x (v ∷ [])))))
      (value_out 0 E.row E.laws 𝓛 x b o) $
      pick ! (λ v. learn ! (λ good. split ! $
      use1 𝓛 (‵ (froom (elτ E) b o)) (𝓛.laws.at_room (elτ E) b o v) $ as_raw ! (elτ E) b o
      $ keep ! (0 ∷ []) $ done !))

  all_emptied : (cs : List (Place E)) (o : ℕ)
      → ent 𝓤 (sem 𝓛 (slots (R E) b o cs)) (sem 𝓛 (slots (R E) b o (replicate (length cs) None)))
  all_emptied [] o = id⊢ 𝓤 (emp 𝓤)
  all_emptied (c ∷ cs) o =
      let on : ℕ = o + type_size (R E) in
      qed 𝓛 (‵ (slots (R E) b o (c ∷ cs)) ∷ []) ∵ fsplit ! $
      use1 𝓛 (‵ (slot (R E) b o None)) (slot_emptied o c) $ move ! (1 ∷ []) $
      use1 𝓛 (‵ (slots (R E) b on (replicate (length cs) None))) (all_emptied cs on) $
      move ! (1 ∷ 0 ∷ []) $ fjoin ! $ done !

  pub room_left : (cs : List (Place E)) (n o : ℕ) → length cs ≡ n
      → ent 𝓤 (sem 𝓛 (slots (R E) b o cs)) (H.room (ty_array (elτ E) n) b o)
  room_left cs n o long =
      subst (λ k. ent 𝓤 (sem 𝓛 (slots (R E) b o cs)) (H.room (ty_array (elτ E) k) b o)) long
      (via 𝓤 (sem 𝓛 (slots (R E) b o (replicate (length cs) None))) (all_emptied cs o)
      (to_room E 𝓛 b (length cs) o))

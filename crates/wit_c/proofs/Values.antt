-- The machine values of a handle and of a box's parts.
use Rattle.std.proofs.Common.{◌≡◌, List, [], ◌∷◌, ◌++◌, refl, subst}
use seplogic.Ra.Ura.{Ura}
use lib.Dec.{T, lit<}
use mir.Syntax.{ty_ptr}
use mir.Val.{Val, vstruct, of_list, has_ty, WT}
use types.Logic.{Logic}
use types.Kit.{Item, Goal, Seq, Step, step, ‵, ◌$◌, move, drop, fsplit, fjoin, fpick, fpack, rewrite, feq_i, feq_l}
use denote.RattleType.{RattleType, Valss}
use denote.Builtin.{RawPtr}
use denote.Laws.{Is, shows}
use denote.RawPtr.{Ptr, block_ptr, null_ptr, ptr_val}
use denote.Steps.{nothing, peeks}
use denote.Param.{layout}
use denote.Struct.Struct.{within}
use denote.Struct.Owning.{shape}
use Rattle.std_alloc.specs.Box.Ownership.{box_owns}
use Rattle.std_heap.specs.contracts.Global as heap
use Rattle.std_heap.specs.contracts.GlobalAllocator.TheImpl.{ghosts}
use Rattle.std_heap.proofs.Handle.{heap_val, heap_Tells}
use Rattle.wit_c.specs.Owned.{owned}
use Rattle.wit_c.specs.contracts.kept_verifier.KeptVerifier.{the_row as R}
use Rattle.wit_c.specs.contracts.parts.Parts as parts
use Rattle.wit_c.specs.contracts.handle.Handle as handle

abbrev pub Global : RattleType
Global = heap.the_row

abbrev pub Parts : RattleType
Parts = parts.the_row R Global ghosts

abbrev pub Handle : RattleType
Handle = handle.the_row

-- a pointer beside a handle to the heap
abbrev pub both : Ptr → Val
both p = vstruct (of_list (ptr_val p ∷ heap_val ∷ []))

pub heap_good : T (has_ty (layout Global) heap_val) × WT heap_val
heap_good = (tt, ((tt, tt), tt))

pub ptr_good : (p : Ptr) → T (has_ty ty_ptr (ptr_val p)) × WT (ptr_val p)
ptr_good (block_ptr b o) = (tt, tt)
ptr_good null_ptr = (tt, record { fits = lit< tt })

pub parts_good : (p : Ptr) → T (has_ty (layout Parts) (both p)) × WT (both p)
parts_good (block_ptr b o) = (tt, (tt, (heap_good.1, tt)))
parts_good null_ptr = (tt, (record { fits = lit< tt }, (heap_good.1, tt)))

pub handle_good : (p : Ptr) → T (has_ty (layout Handle) (both p)) × WT (both p)
handle_good (block_ptr b o) = (tt, (tt, (heap_good.1, tt)))
handle_good null_ptr = (tt, (record { fits = lit< tt }, (heap_good.1, tt)))

module _ {M : Type 1} {𝓤 : Ura M} {𝓛 : Logic 𝓤} {K : Type 0} {Γ : List (Item 𝓤)} {G : Goal 𝓤 𝓛.H} where
  pub parts_out : K → (d : Parts.Denot) (vs : List Val)
      → (vs ≡ both d.ptr ∷ [] → Seq K 𝓛 (‵ (box_owns (ghosts.dealloc_token d.alloc) R d.ptr d.value) ∷ ‵ (Global.own_val d.alloc (heap_val ∷ [])) ∷ Γ) G)
      → Seq K 𝓛 (‵ (Parts.own_val d vs) ∷ Γ) G
  parts_out t d vs k =
      fsplit t $ fpick t (λ vss. fsplit t $ feq_l t (λ ev. fsplit t $ feq_l t (λ ep. fsplit t $ peeks t Global (Is Global) (shows 𝓛 Global) d.alloc vss.1.0 (λ is.
      rewrite t 0 (λ (us : List Val). ‵ (Global.own_val d.alloc us)) (heap_Tells d.alloc vss.1.0 is) refl $ move t (1 ∷ []) $ drop t $ move t (1 ∷ []) $
      k (subst (λ (ws : List Val). vs ≡ vstruct (of_list (ptr_val d.ptr ∷ (ws ++ []))) ∷ []) (heap_Tells d.alloc vss.1.0 is) (subst (λ (ps : List Val). vs ≡ vstruct (of_list (ps ++ (vss.1.0 ++ []))) ∷ []) ep ev))))))

  pub parts_in : K → (d : Parts.Denot)
      → Step K 𝓛 (‵ (Parts.own_val d (both d.ptr ∷ [])) ∷ Γ) G (‵ (box_owns (ghosts.dealloc_token d.alloc) R d.ptr d.value) ∷ ‵ (Global.own_val d.alloc (heap_val ∷ [])) ∷ Γ) G
  parts_in t d = step (λ s. let v : Val = both d.ptr in
      nothing t $ move t (2 ∷ 0 ∷ []) $ fjoin t $ feq_i t (List Val) (ptr_val d.ptr ∷ []) (ptr_val d.ptr ∷ []) refl $ fjoin t $ feq_i t (List Val) (v ∷ []) (v ∷ []) refl $ fjoin t $
      fpack t (Valss (RawPtr ∷ Global ∷ [])) (within (shape (parts.the_type R Global ghosts)) (d.ptr, (d.alloc, tt)) (v ∷ [])) (ptr_val d.ptr ∷ [], (heap_val ∷ [], tt)) $ fjoin t $ s)

  pub handle_out : K → (d : Handle.Denot) (vs : List Val)
      → (vs ≡ both d.at ∷ [] → Seq K 𝓛 (‵ (owned (ghosts.dealloc_token d.alloc) R d.at d.value) ∷ ‵ (Global.own_val d.alloc (heap_val ∷ [])) ∷ Γ) G)
      → Seq K 𝓛 (‵ (Handle.own_val d vs) ∷ Γ) G
  handle_out t d vs k =
      fsplit t $ fpick t (λ vss. fsplit t $ feq_l t (λ ev. fsplit t $ feq_l t (λ ep. fsplit t $ peeks t Global (Is Global) (shows 𝓛 Global) d.alloc vss.1.0 (λ is.
      rewrite t 0 (λ (us : List Val). ‵ (Global.own_val d.alloc us)) (heap_Tells d.alloc vss.1.0 is) refl $ move t (1 ∷ []) $ drop t $ move t (1 ∷ []) $
      k (subst (λ (ws : List Val). vs ≡ vstruct (of_list (ptr_val d.at ∷ (ws ++ []))) ∷ []) (heap_Tells d.alloc vss.1.0 is) (subst (λ (ps : List Val). vs ≡ vstruct (of_list (ps ++ (vss.1.0 ++ []))) ∷ []) ep ev))))))

  pub handle_in : K → (d : Handle.Denot)
      → Step K 𝓛 (‵ (Handle.own_val d (both d.at ∷ [])) ∷ Γ) G (‵ (owned (ghosts.dealloc_token d.alloc) R d.at d.value) ∷ ‵ (Global.own_val d.alloc (heap_val ∷ [])) ∷ Γ) G
  handle_in t d = step (λ s. let v : Val = both d.at in
      nothing t $ move t (2 ∷ 0 ∷ []) $ fjoin t $ feq_i t (List Val) (ptr_val d.at ∷ []) (ptr_val d.at ∷ []) refl $ fjoin t $ feq_i t (List Val) (v ∷ []) (v ∷ []) refl $ fjoin t $
      fpack t (Valss (RawPtr ∷ Global ∷ [])) (within (shape handle.the_type) (d.at, (((tt, tt), tt), tt)) (v ∷ [])) (ptr_val d.at ∷ [], (heap_val ∷ [], tt)) $ fjoin t $ s)

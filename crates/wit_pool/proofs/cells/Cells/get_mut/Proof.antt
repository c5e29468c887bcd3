-- What the place holds is lent, and the owner follows what is left there. Assumes `Logic`.
use Rattle.wit_pool.proofs.Steps.{◌≡◌, refl, sym, ap, subst, ◌∙◌, ℕ, ◌+◌, ◌*◌, ◌<◌, ◌^◌, List, []}
use Rattle.wit_pool.proofs.Steps.{◌∷◌, ◌++◌, length, get_or, set, length-set, full_share, SProp}
use Rattle.wit_pool.proofs.Steps.{ent, sep, never, id⊢, Fml, GName, ftrue, fsep, fat, flft, inst_fn}
use Rattle.wit_pool.proofs.Steps.{named, Val, vptr, WpFn, fact, tables, ◌⊑◌, ‵, raw, ◌⊛◌, some}
use Rattle.wit_pool.proofs.Steps.{later, at_ret, ◌$◌, ◌∵◌, !, qed, move, keep, skip, use1, use2}
use Rattle.wit_pool.proofs.Steps.{pick, split, split3, join, group, await, fsplit, fsplit3, fjoin}
use Rattle.wit_pool.proofs.Steps.{fjoin3, fpack, feq_l, flt_i, flt_l, rewrite, suffices, frame}
use Rattle.wit_pool.proofs.Steps.{done, whole, sub, enter, addr, from, stop, fld, hop, of_opd}
use Rattle.wit_pool.proofs.Steps.{first, blocks, exec, returns, alloc_all, pass_all, free_all}
use Rattle.wit_pool.proofs.Steps.{look_at, look_in_at, get, sets, sets_last, take_at, give_at, env}
use Rattle.wit_pool.proofs.Steps.{no, owns, layout, Logic, sem, mem, cell_at, Ptr, block_ptr}
use Rattle.wit_pool.proofs.Steps.{in_a_block, MutRef, plain, mut_ref_to, types_at, nothing, heard}
use Rattle.wit_pool.proofs.Steps.{opens, Stays, stay_dropped, walk_of, says, ends_at, Goes-dropped}
use Rattle.wit_pool.proofs.Steps.{Goes-spent_ref, follows, lends_Part, Ura, None, Some, proved_at}
use Rattle.wit_pool.proofs.Steps.{after, word, word-Good, El, R, args, slot, slots, cells_own}
use Rattle.wit_pool.proofs.Steps.{Place, sz, word_had, filled_within, slot_out, slot_in, spot}
use Rattle.wit_pool.proofs.Steps.{spot_at, IsSpot}
use denote.Memory.{part_of}
use Rattle.circular_buffer.proofs.Memory.{Besides}
use Rattle.wit_pool.specs.Lending.{with_slots}
use Rattle.wit_pool.proofs.Memory.{Cr, Lk, Marked, at_words}
use Rattle.wit_pool.specs.contracts.cells.Cells.get_mut as f
use Rattle.wit_pool.proofs.cells.Cells.get_mut.Statement.{statement}
use Rattle.wit_pool.proofs.cells.Cells.get_mut.Code as code

module _ (E : El) {M : Type 1} {𝓤 : Ura M} (𝓛 : Logic 𝓤) (cs : (Cr E).Denot) (i rb ro : ℕ)
    (vs : List Val) (b o : ℕ) where
  -- the owner, with another value in the place
  abbrev written : (R E).Denot → (Cr E).Denot
  written w = with_slots cs (set cs.slots i (Some w))

  -- the owner without that place
  abbrev Rest : Fml
  Rest =
      fsep (Besides E 𝓛 b o cs.slots i)
      (fsep ((Marked E).own_val (tt, tt) vs) (cell_at full_share (Cr E).mir vs rb ro))

  back : cs.at ≡ block_ptr b o → i < length cs.slots → length cs.slots * sz E < 2 ^ 63
      → (w : (R E).Denot)
      → ent 𝓤 (sep 𝓤 (sem 𝓛 ((mem (R E)).own_at w b (i * sz E + o))) (sem 𝓛 Rest))
      (sem 𝓛 ((mem (Cr E)).own_at (written w) rb ro))
  unfolding part_of
  back e within small w =
      let new = (written w).slots in
      qed 𝓛 (‵ (slot (R E) b (i * sz E + o) (Some w)) ∷ ‵ Rest ∷ []) ∵
      move ! (1 ∷ []) $ fsplit3 ! $ move ! (3 ∷ 0 ∷ []) $
      use2 𝓛 (‵ (slots (R E) b o new)) (slot_in E 𝓛 b o cs.slots i within (Some w)) $
      flt_i ! (length new * sz E) (2 ^ 63) (subst (λ k. k * sz E < 2 ^ 63)
      (sym (length-set cs.slots i (Some w))) small) $
      fjoin ! $ rewrite ! 0 (λ (p : Ptr). ‵ (cells_own (R E) p new)) (sym e) refl
      $ move ! (1 ∷ 0 ∷ []) $
      fjoin ! $ move ! (1 ∷ 0 ∷ []) $ fjoin ! $
      fpack ! (List Val) (λ us. fsep (cell_at full_share (Cr E).mir us rb ro)
      ((Cr E).own_val (written w) us)) vs $
      done !

pub get_mut_spec : {M : Type 1} → statement M
get_mut_spec 𝓤 𝓛 𝓜 𝓡 wired X LX =
    let E : El = record { row = X; laws = LX } in let s : ℕ = sz E in
    let 𝓣 = tables 𝓤 𝓛.H 𝓜 𝓡 𝓡.env in let fn = inst_fn (args E) code.function in
    let T = f.ended X in let c = f.clauses X 𝓛 𝓜.mem 𝓡.returns in
    let hs : Stays T.signature.params T.kept = (
      stay_dropped (mut_ref_to (0 ∷ []) tt (plain {n = 2} (λ _. Cr E))) no,
      (stay_dropped (plain (λ _. Lk E)) no, tt),
    ) in
    proved_at 𝓛 T hs c 𝓜 𝓡 (
      Goes-spent_ref 𝓛 2 (0 ∷ []) tt (plain (λ _. Cr E)),
      (Goes-dropped 𝓛 2 (plain (λ _. Lk E)) no (λ κs x w. refl), tt),
    )
    (f.Key.name (args E)) fn (code.unfolded 𝓤 𝓛.H 𝓜 𝓡 wired (X, tt)) (λ y are.
    let κs = y.0.0 in let qs = y.0.1 in let a = y.0.3 in let us = y.0.4 in
    let rb = a.0.ref_ptr.0 in let ro = a.0.ref_ptr.1 in let γ =
    a.0.ghost_name in let cs = a.0.now in
    let link = a.1.0 in
    let Post : Val → SProp 𝓤 = (walk_of 𝓛 T hs c).post y in
    let Runs : List Val → SProp 𝓤 = λ ws. WpFn 𝓤 𝓛.H 𝓣.C 𝓣.Λ fn ws Post in
    let i : ℕ = spot (R E) cs.at link.ptr in
    let known = (Cr E).coded.code cs in
    qed 𝓛 (((‵ (flft κs.0 qs.0) ⊛ (‵ (flft κs.1.0 qs.1.0) ⊛ ‵ ftrue)) ⊛ ‵ (owns
    (types_at T.signature.params κs) a us))
    ∷ (raw (fact 𝓤 (κs.1.0 ⊑ X.lives)) ⊛ raw (fact 𝓤 (IsSpot (R E) cs.at cs.slots link.ptr))) ∷ [])
    ∵
    move ! (1 ∷ []) $ split ! $ heard ! _ (λ short. heard ! _ (λ asked.
    let x = asked.1.0 in let within = filled_within cs.slots i x asked.1.1 in
    split ! $ split ! $ move ! (2 ∷ []) $ fsplit ! $ fsplit3 !
    $ feq_l ! (λ e0. move ! (2 ∷ []) $ fsplit ! $
    word_had ! link.ptr us.1.0 (λ e1. skip ! $
    suffices ! (Runs (vptr rb ro ∷ word link.ptr ∷ []))
    (at_words 𝓤 Runs (λ j. e0 j ++ (e1 j ++ []))) $
    enter ! _ _ _ _ _ $ alloc_all ! (λ l. pass_all ! refl ((tt, tt), (word-Good [] link.ptr, tt)) $
    -- [what is observed; the borrow; the first token; the other ones]
    opens ! tt (Cr E) {h = cs} rb ro (λ vs. move ! (1 ∷ []) $ fsplit ! $ move ! (1 ∷ []) $
    in_a_block ! cs.at (λ p. cells_own (R E) p cs.slots) (id⊢ 𝓤 (never 𝓤)) (λ b o e. fsplit ! $
    flt_l ! (λ small.
    -- the pointer's place is taken out of the row
    take_at ! 2 $ rewrite ! 0 (λ (p : Ptr). ‵ (fat full_share (layout (Lk E)) (l 2) 0 (word p)))
    (asked.0 ∙ ap (λ p. spot_at (R E) p i) e) refl $
    give_at ! 2 $ use1 𝓛 (‵ (slot (R E) b (i * s + o) (get_or cs.slots i None)) ⊛ ‵
    (Besides E 𝓛 b o cs.slots i))
    (slot_out E 𝓛 b o cs.slots i within) $ split ! $
    rewrite ! 0 (λ (p : Place E). ‵ (slot (R E) b (i * s + o) p)) asked.1.1 refl $
    first ! $ blocks ! $
    sets_last ! (addr ! (from ! (fld ! refl (hop ! (look_in_at ! 2 (sub ! 0 refl (whole !)))
    (stop !))))) refl (tt, tt) $
    exec ! 𝓣.C 𝓣.Λ (env fn.locals l) (after 1 fn.body) (at_ret _ Post) $
    sets ! (of_opd ! (get ! refl)) refl (tt, tt) $
    -- [the place; the other places; what is left of the owner; the open borrow; the other tokens]
    move ! (1 ∷ 2 ∷ 3 ∷ []) $ fjoin3 ! $ move ! (2 ∷ 3 ∷ 4 ∷ 1 ∷ 0 ∷ []) $ group ! 5 $
    use1 𝓛 (later (some (λ (δ : GName).
    ‵ ((MutRef (named 0) κs.0 (R E)).own_val
    (record { ref_ptr = (b, i * s + o); ghost_name = δ; now = x })
    (vptr b (i * s + o) ∷ []))
    ⊛ ‵ (flft κs.0 qs.0) ⊛ ‵ (follows (Cr E) (R E) γ δ (written E 𝓛 cs i rb ro vs b o)))))
    (lends_Part 𝓛 (Cr E) (R E) (written E 𝓛 cs i rb ro vs b o)
    (named 0) κs.0 qs.0 rb ro b (i * s + o) γ
    (sem 𝓛 (Rest E 𝓛 cs i rb ro vs b o)) (back E 𝓛 cs i rb ro vs b o e within small) known known x)
    $
    await ! tt $ pick ! (λ δ. split3 ! $
    returns ! (look_at ! 0 refl) $ free_all ! refl $
    -- [the loan; the first token; what the owner follows; the other tokens]
    keep ! (0 ∷ 1 ∷ 3 ∷ 2 ∷ []) $ nothing ! $ nothing ! $ fjoin ! $ nothing ! $ fjoin ! $ join ! $
    move ! (1 ∷ 2 ∷ []) $ join ! $ join ! $
    suffices ! _ (ends_at 𝓛 T hs c y (vptr b (i * s + o))
    (record { ref_ptr = (b, i * s + o); ghost_name = δ; now = x }) (tt, (tt, tt)) (tt, (tt, tt))) $
    frame ! $ says ! asked.1.1 $ done !))))))))))

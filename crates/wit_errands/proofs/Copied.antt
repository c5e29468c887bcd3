-- Threads in a deadlock that did copies of errands did errands of their own: these meet, so the copies
-- do.
use Rattle.std.proofs.Common.{◌≡◌, ℕ, ◌+◌, ◌-◌, true, false, ◌&&◌, ◌||◌, cond, eqb}
use Rattle.std.proofs.Common.{nat_lt, List, [], ◌∷◌, ◌++◌, map, length, refl, ap, ap₂, sym, ◌∙◌}
use Rattle.std.proofs.Common.{subst, inl, inr, arith, append-nil, length-append}
use Rattle.std.specs.List.{list_all}
use Rattle.std.proofs.lemmas.Bool.{cases_Bool, and_parts, eq-eqb}
use Rattle.std.proofs.lemmas.List.{map-append, length-map}
use Rattle.wit_model.specs.declared.calls.Request.{Request}
use Rattle.wit_model.specs.declared.calls.Call.TheVariants.{Check}
use Rattle.wit_model.specs.declared.calls.Entry.{Entry}
use Rattle.wit_model.specs.Rules.Circles.{IsQueue}
use Rattle.wit_model.specs.Rules.History.{is_held}
use Rattle.wit_model.specs.Rules.History.{num}
use Rattle.wit_model.specs.Rules.State.{Start}
use Rattle.wit_model.specs.Rules.Verdict.{is_exclusive}
use Rattle.wit_model.specs.World.Deeds.{Deed, Logged, PassedOver, Take, TryTake, Free, RawUp}
use Rattle.wit_model.specs.World.Deeds.{RawDown, thread_of, own, log_of, shares, raw_mode, are_these}
use Rattle.wit_model.specs.World.Stages.{Asked, stage, stage_logged}
use Rattle.wit_model.specs.World.Steps.{IsWorld}
use Rattle.wit_model.specs.World.Waiting.{IsWaiting, IsDeadlock}
use Rattle.wit_model.specs.World.Reordering.{kept}
use Rattle.wit_model.proofs.World.Own.{kept-check, shares-kept, num-own}
use Rattle.wit_errands.specs.Errands.{Errand, Asker, AsksFor, AskOn, IsRound, errand_of, threads_of}
use Rattle.wit_errands.specs.Errands.{keeps, AllAtRequest}
use Rattle.wit_errands.specs.Copies.{done_by, Copier, copying, copied, copied_by, HasCopied}
use Rattle.wit_errands.specs.Copies.{AllCopied, CopyOn, IsCopiedRound, MeetCopied}
use Rattle.wit_errands.proofs.Looks.{mode-kept}
use Rattle.wit_errands.proofs.Threads.{Mine, own-all, own-mine-all}
use Rattle.wit_errands.proofs.Ends.{cancel, splits}
use Rattle.wit_errands.proofs.Waiting.{mine-parts, IsDone, check-num}
use Rattle.wit_errands.proofs.Meeting.{same-asked, round, meet}
use Rattle.wit_model.specs.declared.locks.Mode.TheVariants.{Shared, Exclusive}
use Rattle.wit_errands.proofs.Queues.{first-waits}

-- ---- a copier has what its model had

these-copied : (m t u l k : ℕ) → eqb u m ≡ true → are_these t l t k ≡ are_these m l u k
these-copied m t u l k mine = rw (mine, eq-eqb t t refl) refl

module _ (m t l : ℕ) where
  shares-copied : (w : List Deed) → Mine m w → shares t l (map (done_by t) w) ≡ shares m l w
  shares-copied [] mine = refl
  shares-copied (Take u k mode ∷ w) mine =
      let parts = and_parts (eqb u m) (list_all (λ d. eqb (thread_of d) m) w) mine in
      ap₂ (λ b n. cond b (n + 1) n) (these-copied m t u l k parts.0) (shares-copied w parts.1)
  shares-copied (TryTake u k mode ∷ w) mine =
      let parts = and_parts (eqb u m) (list_all (λ d. eqb (thread_of d) m) w) mine in
      ap₂ (λ b n. cond b (n + 1) n) (these-copied m t u l k parts.0) (shares-copied w parts.1)
  shares-copied (Free u k ∷ w) mine =
      let parts = and_parts (eqb u m) (list_all (λ d. eqb (thread_of d) m) w) mine in
      ap₂ (λ b n. cond b (n - 1) n) (these-copied m t u l k parts.0) (shares-copied w parts.1)
  shares-copied (Logged e ∷ w) mine =
      shares-copied w
      (and_parts (eqb e.seat.0 m) (list_all (λ d. eqb (thread_of d) m) w) mine).1
  shares-copied (PassedOver u c ∷ w) mine =
      shares-copied w (and_parts (eqb u m) (list_all (λ d. eqb (thread_of d) m) w) mine).1
  shares-copied (RawUp u k ∷ w) mine =
      shares-copied w (and_parts (eqb u m) (list_all (λ d. eqb (thread_of d) m) w) mine).1
  shares-copied (RawDown u k ∷ w) mine =
      shares-copied w (and_parts (eqb u m) (list_all (λ d. eqb (thread_of d) m) w) mine).1

  mode-copied : (w : List Deed) → Mine m w → raw_mode t l (map (done_by t) w) ≡ raw_mode m l w
  mode-copied [] mine = refl
  mode-copied (Take u k mode ∷ w) mine =
      let parts = and_parts (eqb u m) (list_all (λ d. eqb (thread_of d) m) w) mine in
      ap₂ (λ b x. cond b mode x) (these-copied m t u l k parts.0) (mode-copied w parts.1)
  mode-copied (TryTake u k mode ∷ w) mine =
      let parts = and_parts (eqb u m) (list_all (λ d. eqb (thread_of d) m) w) mine in
      ap₂ (λ b x. cond b mode x) (these-copied m t u l k parts.0) (mode-copied w parts.1)
  mode-copied (RawUp u k ∷ w) mine =
      let parts = and_parts (eqb u m) (list_all (λ d. eqb (thread_of d) m) w) mine in
      ap₂ (λ b x. cond b Exclusive x) (these-copied m t u l k parts.0) (mode-copied w parts.1)
  mode-copied (RawDown u k ∷ w) mine =
      let parts = and_parts (eqb u m) (list_all (λ d. eqb (thread_of d) m) w) mine in
      ap₂ (λ b x. cond b Shared x) (these-copied m t u l k parts.0) (mode-copied w parts.1)
  mode-copied (Free u k ∷ w) mine =
      mode-copied w (and_parts (eqb u m) (list_all (λ d. eqb (thread_of d) m) w) mine).1
  mode-copied (Logged e ∷ w) mine =
      mode-copied w
      (and_parts (eqb e.seat.0 m) (list_all (λ d. eqb (thread_of d) m) w) mine).1
  mode-copied (PassedOver u c ∷ w) mine =
      mode-copied w (and_parts (eqb u m) (list_all (λ d. eqb (thread_of d) m) w) mine).1

-- ---- its errand in its own world

module _ (first deeds v : List Deed) where
  -- an errand of t that looks like the copy
  record HasOwn (c : Copier first deeds) : Type 0 where
    errand : Errand c.thread [] v
    done : IsDone c.thread [] v errand v
    same_request : errand.request ≡ c.errand.request
    looks : map kept (Logged errand.entry ∷ errand.way) ≡ map kept (copied c)

  mine-way : (c : Copier first deeds) → Mine c.model c.errand.way
  mine-way c =
      (and_parts (eqb (thread_of (Logged c.errand.entry)) c.model)
      (list_all (λ d. eqb (thread_of d) c.model) c.errand.way)
      (mine-parts c.model first deeds c.errand).0).1

  -- its way leaves it what its model had
  counts-own : (c : Copier first deeds) (h : HasOwn c) (l : ℕ)
      → shares c.thread l h.errand.way ≡ shares c.model l c.errand.way
  counts-own c h l =
      let tail : map kept h.errand.way ≡ map kept (map (done_by c.thread) c.errand.way) =
      (let whole : kept (Logged h.errand.entry) ∷ map kept h.errand.way
      ≡ kept (done_by c.thread (Logged c.errand.entry))
      ∷ map kept (map (done_by c.thread) c.errand.way) = h.looks in cc) in
      sym (shares-kept c.thread l h.errand.way)
      ∙ (ap (λ o. shares c.thread l o) tail
      ∙ (shares-kept c.thread l (map (done_by c.thread) c.errand.way)
      ∙ shares-copied c.model c.thread l c.errand.way (mine-way c)))

  modes-own : (c : Copier first deeds) (h : HasOwn c) (l : ℕ)
      → raw_mode c.thread l h.errand.way ≡ raw_mode c.model l c.errand.way
  modes-own c h l =
      let tail : map kept h.errand.way ≡ map kept (map (done_by c.thread) c.errand.way) =
      (let whole : kept (Logged h.errand.entry) ∷ map kept h.errand.way
      ≡ kept (done_by c.thread (Logged c.errand.entry))
      ∷ map kept (map (done_by c.thread) c.errand.way) = h.looks in cc) in
      sym (mode-kept c.thread l h.errand.way)
      ∙ (ap (λ o. raw_mode c.thread l o) tail
      ∙ (mode-kept c.thread l (map (done_by c.thread) c.errand.way)
      ∙ mode-copied c.model c.thread l c.errand.way (mine-way c)))

  asks-copied : (a b : Copier first deeds) (g : HasOwn a) (h : HasOwn b)
      → AsksFor g.errand h.errand → AsksFor a.errand b.errand
  asks-copied a b g h asks =
      let l = a.errand.request.lock.0 in
      sym (ap₂ (λ n m. nat_lt 0 n && (is_exclusive m || is_exclusive a.errand.request.mode))
      (counts-own b h l) (modes-own b h l))
      ∙ subst (λ (q : Request). keeps b.thread h.errand.way q.lock.0 q.mode ≡ true) g.same_request
      asks

  -- ---- it has one, where it waits

  module _ (c : Copier first deeds) (u : ℕ) (waiting : IsWaiting v c.thread u)
      (older : List Deed) (nothing : (l : ℕ) → shares c.thread l older ≡ 0) where
    abbrev t : ℕ
    t = c.thread

    abbrev q : Request
    q = c.errand.request

    own-as : (x : Entry) (way : List Deed) → own t v ≡ (Logged x ∷ way) ++ older
        → x.call ≡ Check q → map kept (Logged x ∷ way) ≡ map kept (copied c) → HasOwn c
    own-as x way whole call looks =
        let stands : stage t (own t v) ≡ Asked q =
        ap (λ o. stage t o) whole ∙ ap (λ k. stage_logged t k (way ++ older)) call in
        let same = same-asked waiting.request q (sym waiting.asks ∙ stands) in
        let rest = way ++ older in
        let recorded =
        sym (check-num t q.lock.0 x (log_of rest) q call)
        ∙ (ap (λ o. num t q.lock.0 (log_of o)) (sym whole) ∙ num-own t q.lock.0 v) in
        let free =
        ap (λ o. is_held t q.lock.0 (log_of o)) (append-nil rest)
        ∙ (ap (λ n. nat_lt 0 n) recorded
        ∙ subst (λ (p : Request). is_held t p.lock.0 (log_of v) ≡ false) same waiting.unheld) in
        let mine = subst (λ o. Mine t o) whole (own-mine-all t v) in
        record {
          errand = record {
            before = older;
            way = way;
            entry = x;
            request = q;
            after = [];
            whole = whole;
            asks = call;
            nothing = nothing;
            unheld = free;
          };
          done =
              ap (λ o. map kept o)
              (whole ∙ sym (ap (λ o. own t (Logged x ∷ o)) (append-nil rest)
              ∙ own-all t (Logged x ∷ rest) mine));
          same_request = refl;
          looks = looks;
        }

    own-from : (newer : List Deed) → own t v ≡ newer ++ older
        → map kept newer ≡ map kept (copied c) → HasOwn c
    own-from [] whole looks = (cc)
    own-from (x ∷ way) whole looks =
        let both : kept x ∷ map kept way
        ≡ kept (done_by t (Logged c.errand.entry))
        ∷ map kept (map (done_by t) c.errand.way) = looks in
        let head : kept x ≡ kept (done_by t (Logged c.errand.entry)) = cc in
        let check =
        kept-check x
        (record { seat = record { 0 = t }; call = c.errand.entry.call; reply = c.errand.entry.reply })
        q head c.errand.asks in
        own-as check.0 way (whole ∙ ap (λ d. (d ∷ way) ++ older) check.1) check.2
        (ap (λ d. map kept (d ∷ way)) (sym check.1) ∙ looks)

  own-errand : (c : Copier first deeds) (u : ℕ) → IsWaiting v c.thread u → HasCopied v c → HasOwn c
  own-errand c u waiting h =
      let t = c.thread in
      let s =
      splits [] (own t v) (copied c) h.before h.looks
      (let one = ap (λ o. length o) h.looks in let two = length-map (own t v) kept in
      let three = length-map (copied c ++ h.before) kept in
      let four = length-append (copied c) h.before in omega (arith, one, two, three, four)) in
      let looks =
      cancel (map kept s.newer) (map kept (copied c)) (map kept h.before)
      (ap (λ o. map kept s.newer ++ o) (sym s.same)
      ∙ (sym (map-append kept s.newer s.older)
      ∙ (ap (λ o. map kept o) (sym s.whole)
      ∙ (h.looks ∙ map-append kept (copied c) h.before)))) in
      own-from c u waiting s.older
      (λ l. sym (shares-kept t l s.older)
      ∙ (ap (λ o. shares t l o) s.same ∙ (shares-kept t l h.before ∙ h.nothing l)))
      s.newer s.whole looks

  -- ---- all of them

  AllOwn : List (Copier first deeds) → Type 0
  AllOwn [] = Unit {0}
  AllOwn (c ∷ others) = HasOwn c × AllOwn others

  line : (t : ℕ) (others : List (Copier first deeds)) (last : ℕ)
      → IsQueue (IsWaiting v) t (copying others) last → AllCopied v others → AllOwn others
  unfolding AllOwn
  line t [] last queue all = tt
  line t (c ∷ others) last queue all =
      let next = first-waits (IsWaiting v) c.thread (copying others) last queue.1 in
      (own-errand c next.0 next.1 all.0, line c.thread others last queue.1 all.1)

  all-own : (copiers : List (Copier first deeds)) → IsDeadlock v (copying copiers)
      → AllCopied v copiers → AllOwn copiers
  unfolding AllOwn
  all-own [] circle all = tt
  all-own (c ∷ others) circle all =
      let next = first-waits (IsWaiting v) c.thread (copying others) c.thread circle in
      (own-errand c next.0 next.1 all.0, line c.thread others c.thread circle all.1)

  asker : (c : Copier first deeds) → HasOwn c → Asker [] v
  asker c h = record { thread = c.thread; errand = h.errand }

  askers : (copiers : List (Copier first deeds)) → AllOwn copiers → List (Asker [] v)
  unfolding AllOwn
  askers [] own = []
  askers (c ∷ others) own = asker c own.0 ∷ askers others own.1

  askers-threads : (copiers : List (Copier first deeds)) (own : AllOwn copiers)
      → threads_of (askers copiers own) ≡ copying copiers
  unfolding AllOwn askers asker
  askers-threads [] own = refl
  askers-threads (c ∷ others) own = ap (λ ts. c.thread ∷ ts) (askers-threads others own.1)

  askers-there : (copiers : List (Copier first deeds)) (own : AllOwn copiers)
      → AllAtRequest (askers copiers own) v
  unfolding AllOwn askers asker
  askers-there [] own = tt
  askers-there (c ∷ others) own = (own.0.done, askers-there others own.1)

  on : (a : Copier first deeds) (g : HasOwn a) (others : List (Copier first deeds))
      (own : AllOwn others) (b : Copier first deeds) (h : HasOwn b)
      → AskOn (asker a g) (askers others own) (asker b h) → CopyOn a others b
  unfolding AllOwn askers asker
  on a g [] own b h asks = asks-copied a b g h asks.1
  on a g (c ∷ others) own b h asks =
      (asks-copied a c g own.0 asks.0.1, on c own.0 others own.1 b h asks.1)

  round-copied : (copiers : List (Copier first deeds)) (own : AllOwn copiers)
      → IsRound (askers copiers own) → IsCopiedRound copiers
  unfolding AllOwn askers asker
  round-copied [] own asks = asks
  round-copied (c ∷ others) own asks = on c own.0 others own.1 c own.0 asks

  looks-copied : (copiers : List (Copier first deeds)) (own : AllOwn copiers) (t : ℕ)
      → map kept (errand_of (askers copiers own) t) ≡ map kept (copied_by copiers t)
  unfolding AllOwn askers asker
  looks-copied [] own t = refl
  looks-copied (c ∷ others) own t =
      elim (cases_Bool (eqb c.thread t)) [
        | inl is ↦ rw is own.0.looks
        | inr none ↦ rw none (looks-copied others own.1 t)
      ]

pub copies-meet : (start : Start) (files : List (List ℕ)) (first deeds v : List Deed)
    (copiers : List (Copier first deeds)) → IsWorld start files v → IsDeadlock v (copying copiers)
    → AllCopied v copiers → IsCopiedRound copiers × MeetCopied start.sizes.seats copiers
copies-meet start files first deeds v copiers world circle all =
    let own = all-own first deeds v copiers circle all in
    let as_askers = askers first deeds v copiers own in
    let there = askers-there first deeds v copiers own in
    let nothing = (λ (t l : ℕ). let none : shares t l [] ≡ 0 = refl in none) in
    let asks =
    round [] v v nothing as_askers there
    (subst (λ ts. IsDeadlock v ts) (sym (askers-threads first deeds v copiers own)) circle) in
    let met = meet [] v v nothing as_askers there start files world in (
      round-copied first deeds v copiers own asks,
      record {
        together = met.together;
        copies = λ t. met.errands t ∙ looks-copied first deeds v copiers own t;
        free = met.free;
      },
    )

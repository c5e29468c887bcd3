-- What stays so of requests, whatever is asked for and released, stays so whatever lines are read.
use Rattle.std.proofs.Common.{ℕ, Bool, true, false, ◌&&◌, ◌||◌, not, List, [], ◌∷◌, Option, Some, None}
use Rattle.std.proofs.Common.{is_some, nat_eq}
use Rattle.std.proofs.lemmas.Bool.{cond_both}
use Rattle.std.specs.Map.{lookup}
use Rattle.wit_traced.specs.declared.contexts.Context.{Context}
use Rattle.wit_traced.specs.declared.contexts.Masked.{Masked}
use Rattle.wit_traced.specs.declared.contexts.Preemption.{Preemption}
use Rattle.wit_traced.specs.declared.contexts.Preemption.TheVariants.{On, Off, Untold}
use Rattle.wit_traced.specs.declared.events.Call.{Call}
use Rattle.wit_traced.specs.declared.events.Deed.{Deed}
use Rattle.wit_traced.specs.declared.events.Deed.TheVariants as deed
use Rattle.wit_traced.specs.declared.events.MutexDeed.{MutexDeed}
use Rattle.wit_traced.specs.declared.events.MutexDeed.TheVariants as mutex
use Rattle.wit_traced.specs.Acquiring.{Acquiring}
use Rattle.wit_traced.specs.Doings.{Doing}
use Rattle.wit_traced.specs.Doings as does
use Rattle.wit_traced.specs.Lines.{told_of}
use Rattle.wit_traced.specs.Lttng.{mutex_told}
use Rattle.wit_traced.specs.SymbolLines.{symbol_of}
use Rattle.wit_traced.specs.Tellings.{Telling}
use Rattle.wit_traced.specs.Tellings as tells
use Rattle.wit_gathered.specs.declared.gathering.Pending.{Pending}
use Rattle.wit_gathered.specs.declared.gathering.Settings.{Settings}
use Rattle.wit_gathered.specs.declared.gathering.Taken.{Taken}
use Rattle.wit_gathered.specs.declared.requests.Step.{Step}
use Rattle.wit_gathered.specs.declared.types.Type.{«Type»}
use Rattle.wit_gathered.specs.declared.types.Type.TheVariants as kind
use Rattle.wit_gathered.specs.Gathering
use Rattle.wit_gathered.specs.Gathering.{Gathered, nothing_gathered}
use Rattle.wit_gathered.specs.Holds.{place_released, released, seen_held}
use Rattle.wit_gathered.specs.Laws.{PairsAreKept, PairsAreKnown, PairsStayKnown, with_lines, with_mutex_lines}
use Rattle.wit_gathered.specs.Reading.{line_read, mutex_line_read, symbol_read, with_line, with_mutex_line}
use Rattle.wit_gathered.specs.Names.{number_in}
use Rattle.wit_gathered.specs.Requests.{Requested, after_asking, after_twice, steps_under}
use Rattle.wit_gathered.specs.Types.{of_class, of_lock, of_mutex}
use Rattle.wit_gathered.proofs.Pairs.{AreKept, Knows, asked-known, asking-kept, asking-knows, twice-kept}
use Rattle.wit_gathered.proofs.Pairs.{twice-knows}

module _ (Q : Requested → Type 0)
    (asks : (r : Requested) (steps : List Step) (wanted : Step) → Q r → Q (after_asking r steps wanted))
    (twice : (r : Requested) (s : Step) → Q r → Q (after_twice r s)) where
  abbrev P : Gathered → Type 0
  P g = Q g.requests

  asking-for : (g : Gathered) (context : Context) (wanted : Step) (nested : Bool) → P g
      → P (Gathering.asking_for g context wanted nested)
  asking-for g context wanted nested holds =
      asks g.requests (steps_under g.settings.interrupts g.held context wanted nested) wanted holds

  asking-interrupt : (of : «Type») (g : Gathered) (context : Context) (place : ℕ) → P g
      → P (Gathering.asking_interrupt of g context place)
  asking-interrupt of g context place holds =
      asking-for g context (record { of = of; place = place; tried = false }) false holds

  asking-hard : (g : Gathered) (context : Context) (masked : Masked) (place : ℕ) → P g
      → P (Gathering.asking_hard g context masked place)
  asking-hard g context masked place holds =
      cond_both (Gathering.may_be_hard context masked)
      (Gathering.asking_interrupt kind.Hardirq g context place) g P
      (λ is. asking-interrupt kind.Hardirq g context place holds) (λ is. holds)

  asking-soft : (g : Gathered) (context : Context) (masked : Masked) (place : ℕ) → P g
      → P (Gathering.asking_soft g context masked place)
  asking-soft g context masked place holds =
      cond_both (Gathering.may_be_soft context masked)
      (Gathering.asking_interrupt kind.Softirq g context place) g P
      (λ is. asking-interrupt kind.Softirq g context place holds) (λ is. holds)

  coming : (g : Gathered) (context : Context) (masked : Masked) (place : ℕ) → P g
      → P (Gathering.coming g context masked place)
  coming g context masked place holds =
      let hard = Gathering.asking_hard g context masked place in
      cond_both g.settings.interrupts (Gathering.asking_soft hard context masked place) g P
      (λ is. asking-soft hard context masked place (asking-hard g context masked place holds))
      (λ is. holds)

  asking-readers : (g : Gathered) (t : Taken) (apart : Bool) → P g
      → P (Gathering.asking_readers g t apart)
  asking-readers g t apart holds =
      cond_both apart (Gathering.asking_for g t.context (Gathering.step_of t true) t.nested) g P
      (λ is. asking-for g t.context (Gathering.step_of t true) t.nested holds) (λ is. holds)

  waiting : (g : Gathered) (t : Taken) (apart : Bool) → P g → P (Gathering.waiting g t apart)
  waiting g t apart holds =
      asking-for (Gathering.asking_readers g t apart) t.context (Gathering.step_of t false) t.nested
      (asking-readers g t apart holds)

  asking-first : (g : Gathered) (t : Taken) → P g → P (Gathering.asking_first g t)
  asking-first g t holds =
      let apart = Gathering.parts g.settings t && not (Gathering.reads_again t.reading) in
      cond_both (Gathering.does_wait g.held t) (Gathering.waiting g t apart) g P
      (λ is. waiting g t apart holds) (λ is. holds)

  acquiring : (g : Gathered) (t : Taken) → P g → P (Gathering.acquiring g t)
  unfolding Gathering.acquiring
  acquiring g t holds =
      let h = Gathering.hold_of g.settings t in
      coming
      (Gathering.holding (Gathering.noting_held (Gathering.asking_first g t) t.context h.step) h)
      t.context t.masked t.place (asking-first g t holds)

  acquiring-lock : (g : Gathered) (context : Context) (masked : Masked) (call : Call) (lock : ℕ)
      (place : List ℕ) → P g → P (Gathering.acquiring_lock g context masked call lock place)
  acquiring-lock g context masked call lock place holds =
      let r = of_lock g.known lock call place in
      acquiring
      (Gathering.with_place
      (record g { held = seen_held g.held context lock; known = r.0 }) place)
      (Gathering.taken_lock context masked call lock r.1 (number_in g.places place)) holds

  acquiring-class : (g : Gathered) (context : Context) (masked : Masked) (a : Acquiring) → P g
      → P (Gathering.acquiring_class g context masked a)
  acquiring-class g context masked a holds =
      let r = of_class g.known a (Gathering.is_early context masked) in
      acquiring
      (Gathering.noting_acquired (Gathering.with_place (record g { known = r.0 }) a.place) a.lock r.1)
      (Gathering.taken_class context masked a r.1 (number_in g.places a.place)) holds

  getting-mutex : (g : Gathered) (context : Context) (tried : Bool) (lock number place : ℕ) → P g
      → P (Gathering.getting_mutex g context tried lock number place)
  getting-mutex g context tried lock number place holds =
      acquiring (Gathering.noting_acquired g lock number)
      (Gathering.taken_mutex context tried lock number place) holds

  doing-mutex : (g : Gathered) (context : Context) (of : MutexDeed) (lock number place : ℕ) → P g
      → P (Gathering.doing_mutex g context of lock number place)
  doing-mutex g context mutex.Asks lock number place holds =
      asking-for g context (record { of = kind.Of number; place = place; tried = false }) false holds
  doing-mutex g context mutex.Gets lock number place holds =
      getting-mutex g context false lock number place holds
  doing-mutex g context mutex.Tries lock number place holds =
      getting-mutex g context true lock number place holds
  doing-mutex g context mutex.Releases lock number place holds = holds

  acquiring-mutex : (g : Gathered) (context : Context) (of : MutexDeed) (lock : ℕ) (place : List ℕ)
      → P g → P (Gathering.acquiring_mutex g context of lock place)
  acquiring-mutex g context of lock place holds =
      let r = of_mutex g.known lock in
      doing-mutex (Gathering.with_place (record g { known = r.0 }) place) context of lock r.1
      (number_in g.places place) holds

  unheld : (g : Gathered) (exact : Bool) (place : ℕ) (met : Option ℕ) → P g
      → P (Gathering.unheld g exact place met)
  unheld g exact place None holds = holds
  unheld g true place (Some number) holds =
      twice g.requests (record { of = kind.Of number; place = place; tried = false }) holds
  unheld g false place (Some number) holds = holds

  letting-go : (g : Gathered) (context : Context) (lock : ℕ) (exact : Bool) (place : ℕ) → P g
      → P (Gathering.letting_go g context lock exact place)
  letting-go g context lock exact place holds =
      let later = record g { held = released g.held context lock } in
      cond_both
      (is_some (place_released g.held context lock) || Gathering.has_lock g.passed_over lock) later
      (Gathering.unheld later exact place (lookup (nat_eq lock) g.acquired)) P
      (λ is. holds) (λ is. unheld later exact place (lookup (nat_eq lock) g.acquired) holds)

  releasing : (g : Gathered) (context : Context) (masked : Masked) (lock : ℕ) (place : List ℕ)
      (exact : Bool) → P g → P (Gathering.releasing g context masked lock place exact)
  releasing g context masked lock place exact holds =
      let number = number_in g.places place in
      letting-go (Gathering.coming (Gathering.with_place g place) context masked number) context lock
      exact number (coming (Gathering.with_place g place) context masked number holds)

  entering : (g : Gathered) (context : Context) (masked : Masked) (call : Call) (lock : ℕ)
      (place : List ℕ) (of : Deed) → P g
      → P (Gathering.entering g context masked call lock place of)
  entering g context masked call lock place deed.Releases holds =
      releasing g context masked lock place false holds
  entering g context masked call lock place deed.Acquires holds =
      acquiring-lock g context masked call lock place holds
  entering g context masked call lock place deed.MayEnd holds = holds
  entering g context masked call lock place deed.Tries holds = holds

  leaving-with : (g : Gathered) (context : Context) (masked : Masked) (call : Call) (gives : Bool)
      (place : List ℕ) (found : Option Pending) → P g
      → P (Gathering.leaving_with g context masked call gives place found)
  leaving-with g context masked call gives place None holds = holds
  leaving-with g context masked call gives place (Some p) holds =
      cond_both (Gathering.has_it (Gathering.tries call.deed) gives)
      (Gathering.acquiring_lock g context masked call p.lock place) g P
      (λ is. acquiring-lock g context masked call p.lock place holds) (λ is. holds)

  leaving : (g : Gathered) (context : Context) (masked : Masked) (call : Call) (gives : Bool)
      (place : List ℕ) → P g → P (Gathering.leaving g context masked call gives place)
  leaving g context masked call gives place holds =
      let found = Gathering.last_place (Gathering.same_pending context call) 0 None g.pending in
      leaving-with (record g { pending = Gathering.without_at g.pending found }) context masked call
      gives place (Gathering.pending_at g.pending found) holds

  acting : (g : Gathered) (context : Context) (masked : Masked) (d : Doing) → P g
      → P (Gathering.acting g context masked d)
  acting g context masked (does.Enters call lock place) holds =
      entering g context masked call lock place call.deed holds
  acting g context masked (does.Returns call gives place) holds =
      leaving g context masked call gives place holds
  acting g context masked (does.Acquires a) holds = acquiring-class g context masked a holds
  acting g context masked (does.PassesOver lock) holds = holds
  acting g context masked (does.Releases lock place) holds =
      releasing g context masked lock place true holds
  acting g context masked (does.Does of lock place) holds =
      cond_both (Gathering.releases_mutex of)
      (Gathering.releasing g context masked lock place false)
      (Gathering.acquiring_mutex g context of lock place) P
      (λ is. releasing g context masked lock place false holds)
      (λ is. acquiring-mutex g context of lock place holds)

  noting-on : (g : Gathered) (context : Context) (preemption : Preemption) → P g
      → P (Gathering.noting_on g context preemption)
  noting-on g context Off holds = holds
  noting-on g context On holds =
      cond_both g.counts_preemption (Gathering.unspun g context) g P (λ is. holds) (λ is. holds)
  noting-on g context Untold holds = holds

  noting-preemption : (g : Gathered) (context : Context) (preemption : Preemption) (d : Doing) → P g
      → P (Gathering.noting_preemption g context preemption d)
  noting-preemption g context preemption d holds =
      cond_both (Gathering.is_probe d && not (Gathering.is_interrupt context))
      (Gathering.noting_on g context preemption) g P
      (λ is. noting-on g context preemption holds) (λ is. holds)

  with-telling : (g : Gathered) (told : Telling) → P g → P (Gathering.with_telling g told)
  with-telling g tells.Lost holds = holds
  with-telling g (tells.Tells context masked preemption d) holds =
      acting (Gathering.noting_preemption g context preemption d) context masked d
      (noting-preemption g context preemption d holds)
  with-telling g tells.Remark holds = holds

  symbol-read : (g : Gathered) (read : Option (Option (ℕ × List ℕ))) → P g → P (symbol_read g read)
  symbol-read g None holds = holds
  symbol-read g (Some None) holds = holds
  symbol-read g (Some (Some s)) holds = holds

  line-read : (g : Gathered) (line : List ℕ) (told : Option Telling) → P g
      → P (line_read g line told)
  line-read g line None holds = symbol-read g (symbol_of line) holds
  line-read g line (Some told) holds = with-telling g told holds

  mutex-line-read : (g : Gathered) (told : Option Telling) → P g → P (mutex_line_read g told)
  mutex-line-read g None holds = holds
  mutex-line-read g (Some told) holds = with-telling g told holds

  pub lines-read : (g : Gathered) (lines : List (List ℕ)) → P g → P (with_lines g lines)
  lines-read g [] holds = holds
  lines-read g (line ∷ lines) holds =
      lines-read (with_line g line) lines (line-read g line (told_of line) holds)

  pub mutex-lines-read : (g : Gathered) (lines : List (List ℕ)) → P g → P (with_mutex_lines g lines)
  mutex-lines-read g [] holds = holds
  mutex-lines-read g (line ∷ lines) holds =
      mutex-lines-read (with_mutex_line g line) lines (mutex-line-read g (mutex_told line) holds)

-- ---- the laws

pub pairs-known : PairsAreKnown
pairs-known = asked-known

pub pairs-stay : PairsStayKnown
pairs-stay g lines held asked has = (
  lines-read (Knows held asked) (asking-knows held asked) (twice-knows held asked) g lines has,
  mutex-lines-read (Knows held asked) (asking-knows held asked) (twice-knows held asked) g lines has,
)

none-kept : (settings : Settings) → AreKept (nothing_gathered settings).requests
none-kept settings a b has = (cc)

pub pairs-kept : PairsAreKept
pairs-kept settings lines held asked = (
  lines-read AreKept asking-kept twice-kept (nothing_gathered settings) lines (none-kept settings)
      held asked,
  mutex-lines-read AreKept asking-kept twice-kept (nothing_gathered settings) lines
      (none-kept settings) held asked,
)

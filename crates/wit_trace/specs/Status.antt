-- The exit status of a replay.
use Rattle.std.specs.Prelude.{ℕ, Bool, false, nat_lt, is_some, if◌then◌else◌, Result, Ok, Err}
use Rattle.wit_lines.specs.declared.view.View.{View}
use Rattle.wit_lines.specs.declared.view.View.TheVariants.{Reports, Graph, Locks, Circle, State}
use Rattle.wit_lines.specs.declared.view.View.TheVariants.{Clean}
use Rattle.wit_stream.specs.declared.summary.Summary.{Summary}
use Rattle.wit_stream.specs.declared.summary.ReplayError.{ReplayError}

-- whether a view had something to report: a report, a circle, or that the log isn't clean; an order or
-- a held lock isn't one
abbrev pub is_reported : View → Summary → Bool
is_reported Reports s = nat_lt 0 s.reports
is_reported Graph s = false
is_reported Locks s = false
is_reported Circle s = s.circle
is_reported State s = nat_lt 0 s.reports
is_reported Clean s = s.circle

-- 4 where the replay failed, 3 where a line was bad, 1 where something was reported, else 0
abbrev pub exit_status : View → Result Summary ReplayError → ℕ
exit_status view (Err e) = 4
exit_status view (Ok s) = if is_some s.bad then 3 else (if is_reported view s then 1 else 0)

-- A refused line leaves the session as it was.
use Rattle.std.proofs.Common.{◌≡◌, ◌≤◌, Some, None, Ok, Err, Option, Result, arith}
use Rattle.lines.specs.declared.syntax.Call.{Call}
use Rattle.lines.specs.declared.syntax.Call.TheVariants as call
use Rattle.run.specs.Numbers.{Numbers}
use Rattle.run.specs.declared.refusal.Refusal.{Refusal}
use Rattle.run.specs.declared.refusal.Refusal.TheVariants as e
use Rattle.schedule.specs.declared.refusal.LineRefusal.{LineRefusal}
use Rattle.schedule.specs.declared.refusal.LineRefusal.TheVariants as refusal
use Rattle.schedule.specs.Refusals.{Outcome, line_number}
use Rattle.schedule.specs.States.{Held, State, idle, gathering, running}
use Rattle.schedule.specs.Calls.{Answered}
use Rattle.schedule.specs.Sessions.{Gathers, OnIdle, Runs, Steps}
use Rattle.schedule.specs.Exact.{ExactRefusals}

answered : {X : Type 0} (s : State) (r : Result X Refusal) (P : X → State → Type 0) (x : LineRefusal) (t : State) → Answered s r P (Err x) t → t ≡ s
answered s (Ok a) P x t h = let no : ◌≡◌ {A = Outcome} (Err x) (Ok tt) = h.0 in absurd cc
answered s (Err e) P x t h = h.1

on_idle_lem : (t : State) (k : Call) (x : LineRefusal) → OnIdle k (Err x) t → t ≡ idle
on_idle_lem t (call.Open n p) x h = answered idle _ _ x t h
on_idle_lem t _ x h = h.1

gathers : (run : Numbers) (held : Held) (t : State) (k : Call) (x : LineRefusal) → Gathers run held k (Err x) t → t ≡ gathering run held
gathers run held t (call.Propose i v) x h = answered (gathering run held) _ _ x t h
gathers run held t call.Start x h = answered (gathering run held) _ _ x t h
gathers run held t _ x h = h.1

runs : (run : Numbers) (held : Held) (t : State) (k : Call) (x : LineRefusal) → Runs run held k (Err x) t → t ≡ running run held
runs run held t (call.Deliver k) x h = answered (running run held) _ _ x t h
runs run held t (call.Consult i) x h = answered (running run held) _ _ x t h
runs run held t (call.Crash i) x h = answered (running run held) _ _ x t h
runs run held t call.Pass x h = answered (running run held) _ _ x t h
runs run held t _ x h = h.1

leaves : (s t : State) (k : Option Call) (x : LineRefusal) → Steps s k (Err x) t → t ≡ s
leaves s t None x h = h.1
leaves idle t (Some k) x h = on_idle_lem t k x h
leaves (gathering run held) t (Some k) x h = gathers run held t k x h
leaves (running run held) t (Some k) x h = runs run held t k x h

-- the last case stands for each of the other thirteen
numbered : (e : Refusal) → (1 ≤ line_number (refusal.Run e)) × (line_number (refusal.Run e) ≤ 14)
numbered e.Stations = (omega arith, omega arith)
numbered _ = (omega arith, omega arith)

shows : (x : LineRefusal) → 1 ≤ line_number x
shows (refusal.Run e) = (numbered e).0
shows refusal.Line = omega arith

pub exact : ExactRefusals
exact = record { leaves = leaves; shows = shows; apart = λ e. (numbered e).1 }

-- What a call may count on once no test has refused it.
use Rattle.std.specs.Prelude.{◌≡◌, ℕ, ◌+◌, ◌*◌, ◌<◌, ◌≤◌, true, false, length, is_some, Option}
use Rattle.value.specs.declared.Value.{Ghosts}
use Rattle.station.specs.Rule.{Sound, started}
use Rattle.station.specs.declared.broadcast.Broadcast.{Broadcast}
use Rattle.station.specs.declared.state.Station.{Station}
use Rattle.station.specs.declared.step.Step.{Step}
use Rattle.table.specs.Messages.{size}
use Rattle.run.specs.Admission.{late}
use Rattle.run.specs.Numbers.{Numbers, fitting, limit}
use Rattle.run.specs.Posting.{Postable}
use Rattle.run.specs.Records.{station_at}
use Rattle.run.specs.declared.plan.Plan.{Plan}
use Rattle.run.specs.declared.refusal.Refusal.{Refusal}
use Rattle.run.specs.declared.refusal.Refusal.TheVariants as refusal
use Rattle.run.specs.declared.tables.Tables.{Tables}

-- the tables are those of n stations and so many places
pub record Fitting {V : Type 0} (of : Ghosts V) (n places : ℕ) (tables : Tables V) : Type 0 where
  pub tested : fitting of.WIDTH n places (length tables.stations.now) (length tables.bytes.now) ≡ true
  pub stations : length tables.stations.now ≡ n
  pub bytes : places * size of ≤ length tables.bytes.now

-- they are not, and so refusal e is given
pub record Unfitting {V : Type 0} (of : Ghosts V) (n places : ℕ) (tables : Tables V) (e : Refusal) : Type 0 where
  pub tested : fitting of.WIDTH n places (length tables.stations.now) (length tables.bytes.now) ≡ false
  pub refusal : e ≡ refusal.Tables

-- what is sent behind so many waiting messages, by a station that is then in round q, is within the limits
pub record Within {V : Type 0} (run : Numbers) (waiting q : ℕ) (sent : Option (Broadcast V)) : Type 0 where
  pub round : q ≤ 60000
  pub stamp : late sent ≡ false
  pub limited : is_some sent ≡ true → run.sent + run.n ≤ limit run
  pub free : is_some sent ≡ true → waiting + run.n ≤ run.places

-- a sound record of station i among n
pub record Member {V : Type 0} (n i : ℕ) (s : Station V) : Type 0 where
  pub below : i < n
  pub holds : Sound s
  pub same : s.n ≡ n

module _ {V : Type 0} (of : Ghosts V) (run : Numbers) (tables : Tables V) where
  -- a plan that can be written into the tables
  pub record Ready (p : Plan V) : Type 0 where
    pub fit : Fitting of run.n run.places tables
    pub to : p.to < run.n
    pub post : Postable of run (length tables.bytes.now) p.to p.step.sent

  -- a first step that can be sent, where each station can begin
  pub record Starting (x : Step V) : Type 0 where
    pub each : (k : ℕ) → k < length tables.stations.now → Sound (station_at tables.stations.now k)
    pub step : x ≡ (started (station_at tables.stations.now 0)).1
    pub post : Postable of run (length tables.bytes.now) 0 x.sent

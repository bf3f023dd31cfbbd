-- Beginnings of what passes an end, and of runs.
use Rattle.std.proofs.Common.{ℕ, ◌≤◌, arith}
use Rattle.stream_runs.specs.Laws.{shorter_delivery}
use Rattle.stream_runs.specs.Delivery.{Stream, StreamRun, IsServed}
use Rattle.stream_runs.specs.Awake.{NeverIdles}

pub shorter_served : (stream : Stream) (run : StreamRun) (b c : ℕ) → b ≤ c → IsServed stream run c → IsServed stream run b
shorter_served stream run b c h s =
    record {
      delivers = shorter_delivery _ stream.source stream.sink run.source run.sink b c h s.delivers;
      lags = λ d k. s.lags d (omega arith);
      proper = λ d k. s.proper d (omega arith);
      drops = λ d k. s.drops d (omega arith);
    }

pub shorter_awake : (window : ℕ) (stream : Stream) (run : StreamRun) (b c : ℕ) → b ≤ c → NeverIdles window stream run c → NeverIdles window stream run b
shorter_awake window stream run b c h s =
    record {
      delivers = λ start k. s.delivers start (omega arith);
      accepts = λ start k. s.accepts start (omega arith);
      takes_in = λ start k. s.takes_in start (omega arith);
      shows = λ direct start k. s.shows direct start (omega arith);
      frees = λ direct start k. s.frees direct start (omega arith);
    }

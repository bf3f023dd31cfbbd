use Rattle.std.proofs.Common.{◌<◌, ◌^◌, lit<, arith}
use Rattle.benches.proofs.streams.stream.BenchStream.got_beat.Goals as goal

pub overflow_cast-result : goal.overflow_cast-result
overflow_cast-result c =
    let fits = rw (← c.self.view_is) at c.requires.fits in
    let low : c.level_at-channel.result < 2 ^ 16 = c.level_at-channel.ensures.fits 16 fits.channel (lit< tt) in
    omega arith

pub overflow_cast-result-2 : goal.overflow_cast-result-2
overflow_cast-result-2 c =
    let fits = rw (← c.self.view_is) at c.requires.fits in
    let low : c.level_at-error.result < 2 ^ 32 = c.level_at-error.ensures.fits 32 fits.error (lit< tt) in
    omega arith

pub overflow_cast-result-3 : goal.overflow_cast-result-3
overflow_cast-result-3 c =
    let fits = rw (← c.self.view_is) at c.requires.fits in
    let low : c.level_at-empty.result < 2 ^ 8 = c.level_at-empty.ensures.fits 8 fits.empty (lit< tt) in
    omega arith

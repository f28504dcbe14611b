use denote.Exit.{yes}
use denote.Param.Send.{arg_send, arg_sync, copied_send, copied_sync, param_send, param_sync}
use Rattle.gomp_levels.proofs.nesting.fn.second_region.closure+Fn.call.Goals as goal

-- what the function asks of the types that it sends to threads, it is asked itself
pub closure-requires : goal.closure-requires
closure-requires g c =
    let asked = c.requires.1.1.1.1.1.1.1 in (
      asked.0,
      (
        asked.1.0,
        (
          asked.1.1.0,
          (
            asked.1.1.1.0,
            (
              asked.1.1.1.1.0,
              (
                asked.1.1.1.1.1.0,
                (
                  asked.1.1.1.1.1.1.0,
                  (
                    param_send 0 _ (arg_send _ yes _ asked.1.1.1.1.1.1.1.0),
                    (
                      param_send 1 _ (arg_send _ yes _ asked.1.1.1.1.1.1.1.1),
                      (
                        param_send 2 _ (arg_send _ yes _ asked.1.1.1.1.1.1.1.2),
                        (
                          param_send 3 _ (arg_send _ yes _ asked.1.1.1.1.1.1.1.3),
                          (
                            param_send 4 _ (arg_send _ yes _ asked.1.1.1.1.1.1.1.4),
                            (
                              copied_send 5 _ (arg_send _ yes _ asked.1.1.1.1.1.1.1.5),
                              (
                                param_send 6 _ (arg_send _ yes _ asked.1.1.1.1.1.1.1.6),
                                (
                                  param_sync 0 _ (arg_sync _ yes _ asked.1.1.1.1.1.1.1.7),
                                  (
                                    param_sync 1 _ (arg_sync _ yes _ asked.1.1.1.1.1.1.1.8),
                                    (
                                      param_sync 2 _ (arg_sync _ yes _ asked.1.1.1.1.1.1.1.9),
                                      (
                                        copied_sync 5 _ (arg_sync _ yes _ asked.1.1.1.1.1.1.1.10),
                                        param_sync 6 _ (arg_sync _ yes _ asked.1.1.1.1.1.1.1.11),
                                      ),
                                    ),
                                  ),
                                ),
                              ),
                            ),
                          ),
                        ),
                      ),
                    ),
                  ),
                ),
              ),
            ),
          ),
        ),
      ),
    )
